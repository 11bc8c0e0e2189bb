-- A text as one line.
-- Sources: RFC 8259, for the escapes; Unicode, for the characters that break a line, and for their bytes in UTF-8.
use Rattle.std.specs.Prelude.{◌≡◌, ℕ, zero, suc, ◌+◌, ◌==◌, ◌||◌, ◌&&◌, ◌/◌, ◌%◌, Bool, if◌then◌else◌, List, [], ◌∷◌, ◌++◌, Option, Some, None, codes, cond}
use Rattle.std.specs.Prelude.{nat_le, nat_lt}
use Rattle.std.specs.Char.{digit_char}

-- how many line feeds there are
abbrev pub line_feeds : List ℕ → ℕ
line_feeds [] = 0
line_feeds (b ∷ bytes) = (if b == 10 then 1 else 0) + line_feeds bytes

-- a text without a line feed, and then one line feed
abbrev pub IsOneLine : List ℕ → Type 0
IsOneLine line = (text : List ℕ) × (line_feeds text ≡ 0) × (line ≡ text ++ codes "\n")

-- ---- characters that some reader takes for the end of a line, or for a command, by their bytes

-- a control character of one byte: U+0000 to U+001F, and U+007F
abbrev pub is_control : ℕ → Bool
is_control a = nat_lt a 32 || (a == 127)

-- one of two bytes: U+0080 to U+009F. The second byte is its code.
abbrev pub is_long_control : ℕ → ℕ → Bool
is_long_control a b = (a == 194) && (nat_le 128 b && nat_lt b 160)

-- the line separator U+2028 or the paragraph separator U+2029. The third byte is its code less 8064.
abbrev pub is_separator : ℕ → ℕ → ℕ → Bool
is_separator a b c = (a == 226) && ((b == 128) && ((c == 168) || (c == 169)))

-- Such a character of more than one byte, which begins with the byte `a`: its code, and how many of the bytes after `a` belong to it.
abbrev pub long_break : ℕ → List ℕ → Option (ℕ × ℕ)
long_break a [] = None
long_break a (b ∷ []) = cond (is_long_control a b) (Some (b, 1)) None
long_break a (b ∷ c ∷ bytes) = cond (is_long_control a b) (Some (b, 1)) (cond (is_separator a b c) (Some (8064 + c, 2)) None)

-- such a character of one byte or more
abbrev pub line_break : ℕ → List ℕ → Option (ℕ × ℕ)
line_break a bytes = cond (is_control a) (Some (a, 0)) (long_break a bytes)

-- ---- the text with each of them escaped

-- `\u` and four hexadecimal digits
abbrev pub escape : ℕ → List ℕ
escape code = codes "\\u" ++ digit_char (code / 4096) ∷ digit_char (code / 256 % 16) ∷ digit_char (code / 16 % 16) ∷ digit_char (code % 16) ∷ []

-- what is written for the character that begins with a byte, and how many of the bytes after it belong to that character
abbrev pub written : ℕ → Option (ℕ × ℕ) → List ℕ × ℕ
written a None = (a ∷ [], 0)
written a (Some (code, more)) = (escape code, more)

-- the text with each such character escaped, after some bytes of it that are written already
abbrev pub unbroken_behind : ℕ → List ℕ → List ℕ
unbroken_behind more [] = []
unbroken_behind (suc more) (a ∷ bytes) = unbroken_behind more bytes
unbroken_behind zero (a ∷ bytes) =
    (written a (line_break a bytes)).0 ++ unbroken_behind (written a (line_break a bytes)).1 bytes

-- the whole text so
abbrev pub unbroken : List ℕ → List ℕ
unbroken = unbroken_behind 0

-- and a line feed
abbrev pub line_of : List ℕ → List ℕ
line_of text = unbroken text ++ codes "\n"
