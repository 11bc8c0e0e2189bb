-- Numbers as lists of decimal digits: what is pushed onto them, and their numerals.
use Rattle.programs.proofs.chunkplan.Common.{◌≡◌, ◌≢◌, ◌⊎◌, ◌∙◌, ℕ, zero, suc, ◌+◌, ◌*◌, ◌<◌, ◌≤◌, List, [], ◌∷◌, ◌++◌, get_or, length}
use Rattle.programs.proofs.chunkplan.Common.{length-append, refl, ap, sym, ⊎_elim, arith, product, AreDigits, HasText, is_text, no_text, value_with}
use Rattle.std.proofs.Math.Nat.{mul_assoc, mul_comm}
use Rattle.zarrs_chunk_keys.specs.Numeral.{IsNumeral, digit, more_digits, one_digit}

pub value_pushed : (digits : List ℕ) (one tens : ℕ) → value_with (digits ++ one ∷ []) tens ≡ value_with digits (one + 10 * tens)
value_pushed [] one tens = refl
value_pushed (d ∷ digits) one tens = ap (λ n. d + 10 * n) (value_pushed digits one tens)

pub digits_pushed : (digits : List ℕ) (one : ℕ) → AreDigits digits → one < 10 → AreDigits (digits ++ one ∷ [])
digits_pushed [] one are below = (below, tt)
digits_pushed (d ∷ digits) one are below = (are.0, digits_pushed digits one are.1 below)

pub times_split : (factor one tens : ℕ) → factor * (one + 10 * tens) ≡ one * factor + 10 * (factor * tens)
times_split zero one tens = omega arith
times_split (suc factor) one tens = let rest = times_split factor one tens in omega arith

-- a digit times a factor is no more than nine times the factor
pub nine_times : (one factor : ℕ) → one < 10 → one * factor ≤ 9 * factor
nine_times one zero below = omega arith
nine_times one (suc factor) below = let rest = nine_times one factor below in omega arith

-- a digit of a number that is multiplied, with what is carried from the digits behind it
pub carried : (more : List ℕ) (carry factor one tens last next total : ℕ) → last + 10 * next ≡ carry + one * factor
    → value_with more (carry + factor * (one + 10 * tens)) ≡ total
    → value_with (more ++ last ∷ []) (next + factor * tens) ≡ total
carried more carry factor one tens last next total is value_is =
    let split = times_split factor one tens in
    let same : last + 10 * (next + factor * tens) ≡ carry + factor * (one + 10 * tens) = omega arith in
    value_pushed more last (next + factor * tens) ∙ ap (value_with more) same ∙ value_is

pub product_pushed : (factors : List ℕ) (last : ℕ) → product (factors ++ last ∷ []) ≡ last * product factors
product_pushed [] last = omega arith
product_pushed (n ∷ factors) last = ap (λ m. n * m) (product_pushed factors last) ∙ swapped n last (product factors) where
  swapped : (a b c : ℕ) → a * (b * c) ≡ b * (a * c)
  swapped a b c = sym (mul_assoc a b c) ∙ ap (λ n. n * c) (mul_comm a b) ∙ mul_assoc b a c

pub digit_at : (digits : List ℕ) (k : ℕ) → AreDigits digits → k < length digits → get_or digits k 0 < 10
digit_at [] k are within = absurd (omega arith)
digit_at (d ∷ digits) zero are within = are.0
digit_at (d ∷ digits) (suc k) are within = digit_at digits k are.1 (omega arith)

-- ---- the numeral

-- a numeral isn't empty
pub numeral_some : (n : ℕ) (text : List ℕ) → IsNumeral n text → text ≢ []
numeral_some n text (one_digit below is) none = absurd (omega (arith, ap length is, ap length none))
numeral_some n text (more_digits {d = d} {front = front} before some below is text_is) none =
    let long : length text ≡ length (front ++ digit d ∷ []) = ap length text_is in
    let both : length (front ++ digit d ∷ []) ≡ length front + 1 = length-append front (digit d ∷ []) in
    let no : length text ≡ 0 = ap length none in
    absurd (omega arith)

-- and else it is written
pub written : (n one : ℕ) (text more : List ℕ) → HasText n text → one < 10 → (0 < one) ⊎ (text ≢ []) → more ≡ text ++ digit one ∷ []
    → HasText (one + 10 * n) more
written n one text more (no_text is empty) below why longer =
    ⊎_elim
    (λ (some_here : 0 < one).
    let same : one + 10 * n ≡ one = omega arith in
    let text_is : more ≡ digit one ∷ [] = longer ∙ ap (λ t. t ++ digit one ∷ []) empty in
    is_text (omega arith) (one_digit (omega arith) (rw same text_is)))
    (λ filled. absurd (filled empty)) why
written n one text more (is_text before is) below why longer = is_text (omega arith) (more_digits is before below (omega arith) longer)

pub zero_written : (n : ℕ) (text more : List ℕ) → HasText n text → text ≡ [] → more ≡ text ++ digit 0 ∷ [] → IsNumeral n more
zero_written n text more (no_text is empty) _ longer = one_digit (omega arith) (rw is (longer ∙ ap (λ t. t ++ digit 0 ∷ []) empty))
zero_written n text more (is_text before is) empty longer = absurd (numeral_some n text is empty)
