-- The digits of a numeral: which bytes it holds, how it begins, and how it goes on.
use Rattle.std.proofs.Common.{◌≡◌, ℕ, ◌+◌, ◌-◌, ◌*◌, ◌≤◌, ◌<◌, List, [], ◌∷◌, ◌++◌, add-one, ap, drop, get_or, length, length-append, refl, suc, take}
use Rattle.std.proofs.Common.{arith}
use Rattle.std.proofs.Math.Seq.{split_at, take-suc}
use Rattle.std.specs.List.{AllByRecursion}
use Rattle.zarrs_chunk_keys.specs.Numeral.{IsNumeral, digit, more_digits, one_digit}
use Rattle.zarrs_chunk_keys.specs.lemmas.Numerals.{read_from, reads_back}

pub record IsDigit (c : ℕ) : Type 0 where
  pub least : 48 ≤ c
  pub most : c < 58

abbrev pub AreDigits : List ℕ → Type 0
AreDigits = AllByRecursion IsDigit

is_digit : (d : ℕ) → d < 10 → IsDigit (digit d)
is_digit d small = record { least = omega arith; most = omega arith }

digits_pushed : (front : List ℕ) (c : ℕ) → AreDigits front → IsDigit c → AreDigits (front ++ c ∷ [])
digits_pushed [] c are is = (is, tt)
digits_pushed (x ∷ front) c are is = (are.0, digits_pushed front c are.1 is)

pub numeral_is_digits : (n : ℕ) (text : List ℕ) → IsNumeral n text → AreDigits text
numeral_is_digits n text (one_digit small is) = rw is (is_digit n small, tt)
numeral_is_digits n text (more_digits {n = m} {d = d} {front = front} before positive small value is) =
    rw is (digits_pushed front (digit d) (numeral_is_digits m front before) (is_digit d small))

-- a numeral isn't empty
pub some_digit : (n : ℕ) → ¬ IsNumeral n []
some_digit n (one_digit small is) = let lengths = ap length is in absurd (omega arith)
some_digit n (more_digits {d = d} {front = front} before positive small value is) =
    let lengths = ap length is in
    let sum = length-append front (digit d ∷ []) in
    absurd (omega arith)

first_digit : (n c : ℕ) (rest : List ℕ) → IsNumeral n (c ∷ rest) → IsDigit c
first_digit n c rest is = let digits = numeral_is_digits n (c ∷ rest) is in digits.0

-- the first byte of a numeral is a digit
pub begins : (n c : ℕ) (rest : List ℕ) → IsNumeral n (c ∷ rest) → (d : ℕ) × (d < 10) × (c ≡ digit d)
begins n c rest is = let first = first_digit n c rest is in (c - 48, omega arith, omega arith)

-- a numeral that begins with 0 is 0 alone
pub zero_alone : (n : ℕ) (text rest : List ℕ) → IsNumeral n text → text ≡ 48 ∷ rest → rest ≡ []
zero_alone n text rest (one_digit small is) same = cc
zero_alone n text rest (more_digits {n = m} {front = []} before positive small value is) same = absurd (some_digit m before)
zero_alone n text rest (more_digits {n = m} {d = d} {front = x ∷ front} before positive small value is) same =
    let first : x ≡ 48 = cc in
    let alone : front ≡ [] = zero_alone m (x ∷ front) front before (ap (λ y. y ∷ front) first) in
    let value : read_from 0 (x ∷ front) ≡ 0 = rw (first, alone) refl in
    let zero = reads_back m (x ∷ front) before in
    absurd (omega arith)

digit_within : (front : List ℕ) (c : ℕ) (rest : List ℕ) → AreDigits (front ++ c ∷ rest) → IsDigit c
digit_within [] c rest are = are.0
digit_within (x ∷ front) c rest are = digit_within front c rest are.1

read_on : (k : ℕ) (front : List ℕ) (c : ℕ) (rest : List ℕ) → read_from k (front ++ c ∷ rest) ≡ read_from (10 * read_from k front + (c - 48)) rest
read_on k [] c rest = refl
read_on k (x ∷ front) c rest = read_on (10 * k + (x - 48)) front c rest

grows : (k : ℕ) (text : List ℕ) → k ≤ read_from k text
grows k [] = omega arith
grows k (c ∷ text) = let more = grows (10 * k + (c - 48)) text in omega arith

-- where a numeral goes on behind the numeral of m, a digit stands there, and its number is at least that with this digit
pub goes_on : (m n c : ℕ) (front rest : List ℕ) → IsNumeral m front → IsNumeral n (front ++ c ∷ rest)
    → (d : ℕ) × (d < 10) × (c ≡ digit d) × (10 * m + d ≤ n)
goes_on m n c front rest before is =
    let digits = digit_within front c rest (numeral_is_digits n (front ++ c ∷ rest) is) in
    let so_far = reads_back m front before in
    let all = reads_back n (front ++ c ∷ rest) is in
    let on = read_on 0 front c rest in
    let least = grows (10 * read_from 0 front + (c - 48)) rest in
    (c - 48, omega arith, omega arith, omega arith)

-- a text of a first byte and others, cut before one of the others, and behind it
pub cut_before : (text : List ℕ) (first : ℕ) (others : List ℕ) (i : ℕ) → text ≡ first ∷ others → i < length others
    → text ≡ take (i + 1) text ++ get_or others i 0 ∷ drop (suc i) others
cut_before text first others i same within = rw (same, add-one i) (ap (λ t. first ∷ t) (split_at others i 0 within))

pub cut_behind : (text : List ℕ) (first : ℕ) (others : List ℕ) (i : ℕ) → text ≡ first ∷ others → i < length others
    → take (i + 1 + 1) text ≡ take (i + 1) text ++ get_or others i 0 ∷ []
cut_behind text first others i same within = rw (same, add-one (i + 1), add-one i) (ap (λ t. first ∷ t) (take-suc others i 0 within))
