-- What a reader of lines has left.
use Rattle.std.specs.Prelude.{◌≡◌, ℕ, List, [], ◌∷◌, ◌++◌, drop, Option, Some, None, option_map}
use Rattle.streams.specs.OneLine.{line_feeds}
use Rattle.streams.specs.declared.lines.Lines.{Lines}

-- what was read, and isn't given yet
abbrev pub unread : Lines → List ℕ
unread lines = drop lines.at lines.bytes.items

-- that, and what the reader has left behind it
abbrev pub left : Lines → Option (List ℕ) → Option (List ℕ)
left lines remaining = option_map (λ rest. unread lines ++ rest) remaining

-- the first of some bytes, and the others are left; none, where there are none
abbrev pub IsNextByte : (bytes : List ℕ) → Option ℕ → (left : Option (List ℕ)) → Type 0
IsNextByte bytes (Some byte) left = (rest : List ℕ) × (bytes ≡ byte ∷ rest) × (left ≡ Some rest)
IsNextByte bytes None left = (bytes ≡ []) × (left ≡ Some [])

-- A beginning of what was left was appended to some bytes, and the reader has the rest left.
abbrev pub HasBegun : (before bytes rest : List ℕ) → (remaining : Option (List ℕ)) → Type 0
HasBegun before bytes rest remaining =
    (begun : List ℕ) × (behind : List ℕ) × (rest ≡ begun ++ behind) × (bytes ≡ before ++ begun) × (remaining ≡ Some behind)

-- Of some bytes a beginning without a line feed was appended to a line, and the reader has the others left.
abbrev pub IsCutOff : (before line bytes : List ℕ) → (remaining : Option (List ℕ)) → Type 0
IsCutOff before line bytes remaining =
    (begun : List ℕ) × (rest : List ℕ) × (bytes ≡ begun ++ rest) × (line_feeds begun ≡ 0) × (line ≡ before ++ begun) × (remaining ≡ Some rest)
