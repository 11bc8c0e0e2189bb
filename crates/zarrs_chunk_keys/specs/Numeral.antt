-- The decimal text of a whole number.
-- Source: Zarr V3 core, chunk key encodings (base-10 ASCII, no leading zeros).
use Rattle.std.specs.Prelude.{◌≡◌, ℕ, ◌+◌, ◌*◌, ◌<◌, List, [], ◌∷◌, ◌++◌}

-- the ASCII digit of a number below ten
abbrev pub digit : ℕ → ℕ
digit d = 48 + d

-- a number below ten has its digit; a number past that has the numeral of its tens, and then the digit of its ones
pub data IsNumeral : ℕ → List ℕ → Type 0 where
  one_digit : {n : ℕ} {text : List ℕ} → n < 10 → text ≡ digit n ∷ [] → IsNumeral n text
  more_digits : {n d m : ℕ} {front text : List ℕ} → IsNumeral n front → 0 < n → d < 10 → m ≡ 10 * n + d → text ≡ front ++ digit d ∷ []
      → IsNumeral m text

-- each number's numeral after a byte
abbrev pub IsNumerals : ℕ → List ℕ → List ℕ → Type 0
IsNumerals before [] text = text ≡ []
IsNumerals before (n ∷ ns) text =
    (numeral : List ℕ) × (rest : List ℕ) × IsNumeral n numeral × IsNumerals before ns rest × (text ≡ before ∷ numeral ++ rest)

-- the numbers' numerals with a byte between them
abbrev pub AreJoined : ℕ → List ℕ → List ℕ → Type 0
AreJoined between [] text = text ≡ []
AreJoined between (n ∷ ns) text = IsNumerals between (n ∷ ns) (between ∷ text)
