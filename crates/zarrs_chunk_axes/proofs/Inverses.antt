-- Why a product with the inverse of an edge gives a quotient.
use Rattle.std.proofs.Common.{ℕ, ◌+◌, ◌*◌, ◌-◌, ◌^◌, ◌<◌, ◌≤◌, zero, suc, ⊎_elim, arith}
use Rattle.std.proofs.lemmas.Bool.{cases_lt}
use Rattle.std.proofs.lemmas.Nat.{mul-le}
use Rattle.std.proofs.Math.Nat.{mul-le-mul_left, mul-le-mul_right}
use Rattle.zarrs_chunk_base.specs.Greatest.{greatest}

-- A number below 2^32, and an edge that is in it so often and in the greatest number m times.
module _ (n edge m : ℕ) (small : n < 2 ^ 32) (some : 0 < edge) (most : m * edge ≤ greatest) (close : greatest < m * edge + edge) where
  pub not_more : (q : ℕ) → n < (q + 1) * edge → (n + 1) * m < (q + 1) * 2 ^ 64
  not_more q below =
      let scaled : (n + 1) * m ≤ (q + 1) * edge * m = mul-le-mul_right m (omega arith) in
      let of_most : (q + 1) * (m * edge) ≤ (q + 1) * greatest = mul-le-mul_left (q + 1) most in
      omega arith

  -- the edge is in the greatest number at least as often as in a number below 2^32, times itself
  enough : (q : ℕ) → (q + 1) * edge ≤ n → n ≤ m
  enough q from =
      ⊎_elim
      (λ (few : m < n). absurd (
      let one : 1 * edge ≤ (q + 1) * edge = mul-le-mul_right edge (omega arith) in
      let product : (m + 1) * edge ≤ (2 ^ 32 - 1) * (2 ^ 32 - 1) = mul-le (m + 1) edge (2 ^ 32 - 1) (2 ^ 32 - 1) (omega arith) (omega arith) in
      omega arith
      ))
      (λ (many : n ≤ m). many) (cases_lt m n)

  pub not_less : (q : ℕ) → q * edge ≤ n → q * 2 ^ 64 ≤ (n + 1) * m
  not_less zero from = omega arith
  not_less (suc q) from =
      let many : n ≤ m = enough q (omega arith) in
      let of_close : (q + 1) * 2 ^ 64 ≤ (q + 1) * (m * edge + edge) = mul-le-mul_left (q + 1) (omega arith) in
      let scaled : ((q + 1) * edge + 1) * m ≤ (n + 1) * m = mul-le-mul_right m (omega arith) in
      omega arith
