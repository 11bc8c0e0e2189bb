-- Numbers as lists of decimal digits, the last one first.
use Rattle.std.specs.Prelude.{◌≡◌, ◌+◌, ◌*◌, ◌<◌, ◌∷◌}
use Rattle.programs.specs.chunkplan.Common.{ℕ, List, [], AllByRecursion, IsNumeral}

abbrev pub AreDigits : List ℕ → Type 0
AreDigits = AllByRecursion (λ digit. digit < 10)

-- the number whose last digits these are, and which has so many tens more
abbrev pub value_with : List ℕ → ℕ → ℕ
value_with [] tens = tens
value_with (digit ∷ digits) tens = digit + 10 * value_with digits tens

abbrev pub value : List ℕ → ℕ
value digits = value_with digits 0

-- the text so far is that of the number so far, and none of 0
pub data HasText (n : ℕ) (text : List ℕ) : Type 0 where
  no_text : n ≡ 0 → text ≡ [] → HasText n text
  is_text : 0 < n → IsNumeral n text → HasText n text
