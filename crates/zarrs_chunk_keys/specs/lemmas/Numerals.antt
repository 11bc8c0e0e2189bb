-- A text is the numeral of one number at most, and holds digits alone.
use Rattle.std.specs.Prelude.{◌≡◌, ℕ, ◌+◌, ◌-◌, ◌*◌, ◌≤◌, List, [], ◌∷◌, ◌++◌}
use Rattle.std.specs.List.{AllByRecursion}
use Rattle.std.proofs.Common.{ap, sym, ◌∙◌, refl, arith}
use Rattle.zarrs_chunk_keys.specs.Numeral.{IsNumeral, digit, more_digits, one_digit}

-- no byte is below the digits
abbrev pub AreHigh : List ℕ → Type 0
AreHigh = AllByRecursion (λ c. 48 ≤ c)

high_pushed : (front : List ℕ) (c : ℕ) → AreHigh front → 48 ≤ c → AreHigh (front ++ c ∷ [])
high_pushed [] c high last = (last, tt)
high_pushed (x ∷ front) c high last = (high.0, high_pushed front c high.1 last)

pub numeral_is_high : (n : ℕ) (text : List ℕ) → IsNumeral n text → AreHigh text
numeral_is_high n text (one_digit small is) = rw is (omega arith, tt)
numeral_is_high n text (more_digits {n = m} {d = d} {front = front} before positive small value is) =
    rw is (high_pushed front (digit d) (numeral_is_high m front before) (omega arith))

-- the number that digits stand for, after those that stand for n
abbrev pub read_from : ℕ → List ℕ → ℕ
read_from n [] = n
read_from n (c ∷ text) = read_from (10 * n + (c - 48)) text

read_pushed : (n : ℕ) (front : List ℕ) (c : ℕ) → read_from n (front ++ c ∷ []) ≡ 10 * read_from n front + (c - 48)
read_pushed n [] c = refl
read_pushed n (x ∷ front) c = read_pushed (10 * n + (x - 48)) front c

pub reads_back : (n : ℕ) (text : List ℕ) → IsNumeral n text → read_from 0 text ≡ n
reads_back n text (one_digit small is) = ap (read_from 0) is ∙ omega arith
reads_back n text (more_digits {n = m} {d = d} {front = front} before positive small value is) =
    let rest = reads_back m front before in
    let last = read_pushed 0 front (digit d) in
    ap (read_from 0) is ∙ omega arith

pub same_number : (n m : ℕ) (text : List ℕ) → IsNumeral n text → IsNumeral m text → n ≡ m
same_number n m text first second = sym (reads_back n text first) ∙ reads_back m text second
