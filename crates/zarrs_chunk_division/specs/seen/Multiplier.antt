-- What a division by a known number multiplies by, and how many binary digits it drops then.
-- Source: Granlund and Montgomery, Division by Invariant Integers using Multiplication, 1994, section 4.
use Rattle.std.specs.Prelude.{ℕ, ◌+◌, ◌*◌, ◌^◌, ◌<◌, ◌≤◌}

-- (2^64 + multiplier) * divisor is more than 2^64 * 2^bits, by at most 2^bits
pub record IsMultiplier (divisor multiplier bits : ℕ) : Type 0 where
  pub more : 2 ^ 64 * 2 ^ bits < (2 ^ 64 + multiplier) * divisor
  pub close : (2 ^ 64 + multiplier) * divisor ≤ 2 ^ 64 * 2 ^ bits + 2 ^ bits

-- the first shift drops one digit or none; the second one at most 63, and none where the first drops none
pub record AreShifts (first second : ℕ) : Type 0 where
  pub first_few : first ≤ 1
  pub second_few : second ≤ 63 * first
