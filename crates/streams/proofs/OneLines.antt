-- A text as one line, byte by byte.
use Rattle.std.proofs.Common.{◌≡◌, ◌∙◌, ℕ, zero, suc, ◌<◌, ◌≤◌, Bool, true, false, cond, List, [], ◌∷◌, ◌++◌, Option, Some, None, append_assoc, refl, ap, sym, arith}
use Rattle.std.proofs.Common.{length}
use Rattle.std.proofs.lemmas.Bool.Decides.{nat_tests}
use Rattle.std.specs.List.{AllByRecursion}
use Rattle.streams.specs.OneLine.{IsOneLine, escape, is_control, line_break, line_feeds, line_of, long_break, unbroken, unbroken_behind, written}

pub line_feeds-append : (xs ys : List ℕ) → line_feeds xs ≡ 0 → line_feeds ys ≡ 0 → line_feeds (xs ++ ys) ≡ 0
line_feeds-append [] ys none others = others
line_feeds-append (x ∷ xs) ys none others =
    let rest = line_feeds-append xs ys (omega arith) others in
    grind (arith, nat_tests)

none_in_escape : (code : ℕ) → line_feeds (escape code) ≡ 0
none_in_escape code = grind (arith, nat_tests)

none_written : (a : ℕ) (bytes : List ℕ) → line_feeds (written a (line_break a bytes)).0 ≡ 0
none_written a bytes = by_test (is_control a) (λ other. of_long (long_break a bytes) (grind (arith, nat_tests))) where
  of_long : (found : Option (ℕ × ℕ)) → line_feeds (a ∷ []) ≡ 0 → line_feeds (written a found).0 ≡ 0
  of_long None other = other
  of_long (Some (code, more)) other = none_in_escape code

  by_test : (breaks : Bool) → (breaks ≡ false → line_feeds (written a (long_break a bytes)).0 ≡ 0)
      → line_feeds (written a (cond breaks (Some (a, 0)) (long_break a bytes))).0 ≡ 0
  by_test true other = none_in_escape a
  by_test false other = other refl

none_in : (more : ℕ) (bytes : List ℕ) → line_feeds (unbroken_behind more bytes) ≡ 0
none_in more [] = refl
none_in (suc more) (a ∷ bytes) = none_in more bytes
none_in zero (a ∷ bytes) =
    line_feeds-append (written a (line_break a bytes)).0 _ (none_written a bytes) (none_in (written a (line_break a bytes)).1 bytes)

pub is_one_line : (text : List ℕ) → IsOneLine (line_of text)
is_one_line text = (unbroken text, none_in 0 text, refl)

-- ---- printable characters of ASCII

abbrev pub IsPrintable : ℕ → Type 0
IsPrintable b = (32 ≤ b) × (b < 127)

stays : (a : ℕ) → IsPrintable a → (bytes : List ℕ) → written a (line_break a bytes) ≡ (a ∷ [], 0)
stays a plain [] = grind (arith, nat_tests)
stays a plain (b ∷ []) = grind (arith, nat_tests)
stays a plain (b ∷ c ∷ bytes) = grind (arith, nat_tests)

-- they stay as they are
pub all_stay : (xs : List ℕ) → AllByRecursion IsPrintable xs → unbroken xs ≡ xs
all_stay [] all = refl
all_stay (a ∷ xs) all = rw (stays a all.0 xs) (ap (λ bytes. a ∷ bytes) (all_stay xs all.1))

-- ---- a text in pieces, of which the first ends with a byte that is a character

-- a byte that is a character belongs to no other
module _ (last : ℕ) (ascii : last < 128) (ys : List ℕ) where
  alone : (written last (line_break last ys) ≡ written last (line_break last [])) × ((written last (line_break last [])).1 ≡ 0)
  alone = of ys where
    of : (bytes : List ℕ) → (written last (line_break last bytes) ≡ written last (line_break last []))
        × ((written last (line_break last [])).1 ≡ 0)
    of [] = grind (arith, nat_tests)
    of (b ∷ []) = grind (arith, nat_tests)
    of (b ∷ c ∷ bytes) = grind (arith, nat_tests)

  before : (a : ℕ) (xs : List ℕ) → (written a (line_break a (xs ++ last ∷ ys)) ≡ written a (line_break a (xs ++ last ∷ [])))
      × ((written a (line_break a (xs ++ last ∷ []))).1 ≤ length xs)
  before a [] = of ys where
    of : (bytes : List ℕ) → (written a (line_break a (last ∷ bytes)) ≡ written a (line_break a (last ∷ [])))
        × ((written a (line_break a (last ∷ []))).1 ≤ 0)
    of [] = grind (arith, nat_tests)
    of (c ∷ bytes) = grind (arith, nat_tests)
  before a (b ∷ []) = grind (arith, nat_tests)
  before a (b ∷ c ∷ xs) = grind (arith, nat_tests)

  in_pieces : (more : ℕ) (xs : List ℕ) → more ≤ length xs
      → unbroken_behind more (xs ++ last ∷ ys) ≡ unbroken_behind more (xs ++ last ∷ []) ++ unbroken ys
  in_pieces zero [] within = rw (alone.0, alone.1) (sym (append_assoc (written last (line_break last [])).0 [] (unbroken ys)))
  in_pieces (suc more) [] within = absurd (omega arith)
  in_pieces (suc more) (x ∷ xs) within = in_pieces more xs (omega arith)
  in_pieces zero (x ∷ xs) within =
      let same = before x xs in
      rw same.0
      (ap (λ rest. (written x (line_break x (xs ++ last ∷ []))).0 ++ rest) (in_pieces (written x (line_break x (xs ++ last ∷ []))).1 xs same.1)
      ∙ sym (append_assoc (written x (line_break x (xs ++ last ∷ []))).0 _ (unbroken ys)))

pub unbroken-append : (xs ys : List ℕ) (last : ℕ) → last < 128 → unbroken ((xs ++ last ∷ []) ++ ys) ≡ unbroken (xs ++ last ∷ []) ++ unbroken ys
unbroken-append xs ys last ascii = ap unbroken (append_assoc xs (last ∷ []) ys) ∙ in_pieces last ascii ys 0 xs (omega arith)
