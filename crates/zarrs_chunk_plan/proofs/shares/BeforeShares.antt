-- How many of so many come before a share.
use Rattle.zarrs_chunk_plan.proofs.Common.{◌≡◌, ◌⊎◌, ◌∙◌, ℕ, zero, suc, ◌+◌, ◌-◌, ◌*◌, ◌/◌, ◌%◌, ◌^◌, ◌<◌, ◌≤◌, Some, None, ap, inl, inr, min, refl}
use Rattle.zarrs_chunk_plan.proofs.Common.{sym, ⊎_elim, arith, div-add-mod, div-eq_of_lt, mul-zero, mul_assoc, mul_comm, cases_lt, greatest, counted}
use Rattle.zarrs_chunk_plan.proofs.Common.{before_share, mul-le-mul_right}
use Rattle.std.proofs.Math.Nat.{div-mul-le_self, mul-add-div}
use Rattle.std.proofs.lemmas.Nat.{div-mul-add, le-div}
use Rattle.zarrs_chunk_plan.proofs.ByNumber.{counted_cases}

-- all come before the end of the last one
pub all_before : (number of all : ℕ) → number + 1 ≡ of → before_share (number + 1) of all ≡ all
all_before number of all last =
    let same : (number + 1) * all ≡ all * of + 0 = rw last (mul_comm of all ∙ (let one : all * of ≡ all * of + 0 = omega arith in one)) in
    rw same (div-mul-add all of 0 (omega arith))

-- and no fewer before the next share
pub before_next : (number of all : ℕ) → 0 < of → before_share number of all ≤ before_share (number + 1) of all
before_next number of all some =
    le-div (number * all / of) ((number + 1) * all) of some
    (let low : number * all / of * of ≤ number * all = div-mul-le_self (number * all) of in
    let more = mul-le-mul_right {m = number} {n = number + 1} all (omega arith) in omega arith)

-- the same by a quotient and a rest, which are smaller
split : (number of all : ℕ) → 0 < of → before_share number of all ≡ all / of * number + all % of * number / of
split number of all some =
    let quotient = all / of in
    let rest = all % of in
    let whole : of * quotient + rest ≡ all = div-add-mod all of in
    let same : number * all ≡ of * (quotient * number) + rest * number =
    ap (λ n. number * n) (sym whole) ∙ mul_comm number (of * quotient + rest)
    ∙ (let apart : (of * quotient + rest) * number ≡ of * quotient * number + rest * number = omega arith in apart)
    ∙ ap (λ n. n + rest * number) (mul_assoc of quotient number)
    in
    rw same (mul-add-div some (quotient * number) (rest * number))

-- of so many that 128 bits don't count them, each part is past the greatest number
far : (count of : ℕ) → 0 < of → of ≤ greatest → 2 ^ 128 - 1 ≤ count → greatest < count / of
far count of some small much = let past : 2 ^ 64 + 1 ≤ count / of = le-div (2 ^ 64 + 1) count of some (omega arith) in omega arith

-- where a number tells them, and where none does
abbrev pub Told : (number of all exact : ℕ) → Type 0
Told number of all exact =
    ((exact ≤ greatest) × (counted (before_share number of all) ≡ Some exact))
    ⊎ ((greatest < exact) × (counted (before_share number of all) ≡ None))

told_long : (number of all count : ℕ) → 0 < of → of ≤ greatest → 2 ^ 128 - 1 ≤ all → count ≡ 2 ^ 128 - 1
    → Told number of all (count / of * number + count % of * number / of)
told_long zero of all count some small much is =
    let none : 0 * all ≡ 0 = omega arith in
    let also = mul-zero (count / of) in
    let rest = mul-zero (count % of) in
    let nothing : 0 / of ≡ 0 = div-eq_of_lt some in
    ⊎_elim (λ (fits, told). inl (rw (also, rest, nothing) (omega arith), told ∙ ap Some (rw (none, also, rest, nothing) refl)))
    (λ (past, told). absurd (let first : before_share 0 of all ≡ 0 = rw (none, nothing) refl in omega arith))
    (counted_cases (before_share 0 of all))
told_long (suc number) of all count some small much is =
    let part = far count of some small (omega arith) in
    let all_of = mul-le-mul_right {m = 1} {n = suc number} all (omega arith) in
    let before : greatest < before_share (suc number) of all = far (suc number * all) of some small (omega arith) in
    ⊎_elim (λ (fits, told). absurd (omega arith)) (λ (past, told). inr (omega arith, told)) (counted_cases (before_share (suc number) of all))

pub told_before : (number of all count : ℕ) → 0 < of → of ≤ greatest → count ≡ min all (2 ^ 128 - 1)
    → Told number of all (count / of * number + count % of * number / of)
told_before number of all count some small is =
    ⊎_elim
    (λ (less : all < 2 ^ 128 - 1).
    let same : count ≡ all = omega arith in
    let exact = split number of all some in
    rw same
    (⊎_elim (λ (fits, told). inl (omega arith, told ∙ ap Some exact)) (λ (past, told). inr (omega arith, told))
    (counted_cases (before_share number of all))))
    (λ (much : 2 ^ 128 - 1 ≤ all). told_long number of all count some small much (omega arith)) (cases_lt all (2 ^ 128 - 1))
