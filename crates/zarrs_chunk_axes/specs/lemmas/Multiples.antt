-- Multiples of an edge, quotients by it, and how many edges reach over a size.
use Rattle.std.specs.Prelude.{◌≡◌, ℕ, ◌+◌, ◌*◌, ◌/◌, ◌<◌, ◌≤◌}
use Rattle.std.specs.Int.{div_ceil}
use Rattle.std.proofs.Common.{arith}
use Rattle.std.proofs.Math.Nat.{div-mul-le_self, lt-div-mul-add, lt_of_mul-lt-mul_right}
use Rattle.std.proofs.lemmas.Grind.{div_ceil_times}

pub next_multiple : (c s : ℕ) → (c + 1) * s ≡ c * s + s
next_multiple c s = omega arith

pub below_next : (i s : ℕ) → 0 < s → i < (i / s + 1) * s
below_next i s positive = let below : i < i / s * s + s = lt-div-mul-add positive in omega (arith, next_multiple (i / s) s)

-- the quotient is counted where the index is within the size
pub quotient_counted : (a s i : ℕ) → 0 < s → i < a → i / s < div_ceil a s
quotient_counted a s i positive within =
    let reach : a ≤ div_ceil a s * s = (div_ceil_times a s positive).0 in
    let low : i / s * s ≤ i = div-mul-le_self i s in
    let fits : i / s * s < div_ceil a s * s = omega arith in
    lt_of_mul-lt-mul_right s fits

-- the quotient rounded up is the least that reaches
pub ceil_least : (a s n : ℕ) → 0 < s → a ≤ n * s → div_ceil a s ≤ n
ceil_least a s n positive h =
    let small : div_ceil a s * s < a + s = (div_ceil_times a s positive).1 in
    let fits : div_ceil a s * s < (n + 1) * s = omega (arith, next_multiple n s) in
    let quotient : div_ceil a s < n + 1 = lt_of_mul-lt-mul_right s fits in
    omega arith
