-- Why a product and shifts give a quotient.
use Rattle.std.proofs.Common.{◌≡◌, ℕ, ◌+◌, ◌*◌, ◌-◌, ◌/◌, ◌^◌, ◌<◌, ◌≤◌, zero, suc, refl, arith}
use Rattle.std.proofs.lemmas.Nat.{pow-add, pow_pos}
use Rattle.std.proofs.Math.Nat.{div-mul-le_self, le_of_mul-le-mul_left, lt-div-mul-add, lt_of_mul-lt-mul_left, mul-le-mul_left, mul-le-mul_right}
use Rattle.std.proofs.Math.Nat.{mul-lt-mul_of_pos_left}
use Rattle.zarrs_chunk_division.specs.seen.Multiplier.{AreShifts, IsMultiplier}

-- A quotient is what a number and the high digits of its product are, divided by the power of two.
module _ (d m power n high : ℕ) (more : 2 ^ 64 * power < (2 ^ 64 + m) * d) (close : (2 ^ 64 + m) * d ≤ 2 ^ 64 * power + power) (some : 0 < power)
    (small : n < 2 ^ 64) (least : high * 2 ^ 64 ≤ m * n) (most : m * n < high * 2 ^ 64 + 2 ^ 64) where
  pub not_more : (q : ℕ) → q * power ≤ n + high → q * d ≤ n
  not_more q is =
      let product : (n + high) * 2 ^ 64 ≤ (2 ^ 64 + m) * n = omega arith in
      let scaled = mul-le-mul_left (d * 2 ^ 64) is in
      let of_product = mul-le-mul_left d product in
      let of_close = mul-le-mul_right n close in
      let all : power * (q * d * 2 ^ 64) ≤ power * ((2 ^ 64 + 1) * n) = omega arith in
      let cut = le_of_mul-le-mul_left all some in
      omega arith

  pub not_less : (q : ℕ) → n + high < q * power + power → n < (q + 1) * d
  not_less q is =
      let product : (2 ^ 64 + m) * n < (n + high + 1) * 2 ^ 64 = omega arith in
      let next : n + high + 1 ≤ (q + 1) * power = omega arith in
      let scaled = mul-le-mul_left (2 ^ 64) next in
      let of_more = mul-lt-mul_of_pos_left {k = q + 1} more (omega arith) in
      let all : (2 ^ 64 + m) * n < (2 ^ 64 + m) * ((q + 1) * d) = omega arith in
      let cut = lt_of_mul-lt-mul_left (2 ^ 64 + m) all in
      omega arith

-- One digit of a sum is dropped by halving what one part is short of the other, and then the others.
pub dropped : (first second n high : ℕ) → AreShifts first second → high ≤ n → (first ≡ 0 → high ≡ 0)
    → ((high + (n - high) / 2 ^ first) / 2 ^ second * 2 ^ (first + second) ≤ n + high)
    × (n + high < (high + (n - high) / 2 ^ first) / 2 ^ second * 2 ^ (first + second) + 2 ^ (first + second))
dropped zero zero n high are less none =
    let is_none : high ≡ 0 = none refl in
    rw is_none (omega arith, omega arith)
dropped zero (suc second) n high are less none = let few = are.second_few in absurd (omega arith)
dropped (suc zero) second n high are less none =
    let half = div-mul-le_self (n - high) 2 in
    let next = lt-div-mul-add {a = n - high} {b = 2} (omega arith) in
    let half_sum = high + (n - high) / 2 in
    let power = pow-add 2 1 second in
    let down = div-mul-le_self half_sum (2 ^ second) in
    let up = lt-div-mul-add {a = half_sum} {b = 2 ^ second} (pow_pos second) in
    rw power (omega arith, omega arith)
dropped (suc (suc first)) second n high are less none = let few = are.first_few in absurd (omega arith)

-- the high digits of a product by a shorter number
pub high_less : (m n high : ℕ) → m < 2 ^ 64 → high * 2 ^ 64 ≤ m * n → high ≤ n
high_less m n high short least =
    let most : m * n ≤ 2 ^ 64 * n = mul-le-mul_right n (omega arith) in
    omega arith

-- of the multiplier of 1 there are none
pub none_high : (d m first second n high : ℕ) → IsMultiplier d m (first + second) → AreShifts first second → 0 < d → n < 2 ^ 64
    → high * 2 ^ 64 ≤ m * n → first ≡ 0 → high ≡ 0
none_high d m zero zero n high is are some small least none =
    let close = is.close in
    let scaled = mul-le-mul_left m some in
    let one : m ≤ 1 = omega arith in
    let product : m * n ≤ 1 * n = mul-le-mul_right n one in
    omega arith
none_high d m zero (suc second) n high is are some small least none = let few = are.second_few in absurd (omega arith)
none_high d m (suc first) second n high is are some small least none = absurd (omega arith)
