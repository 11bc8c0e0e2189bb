-- Division of whole numbers.
use Rattle.std.specs.Prelude.{◌≡◌, ℕ, ◌+◌, ◌*◌, ◌<◌, ◌≤◌}

-- so often the divisor is in the number, and no more often
pub record IsQuotient (number divisor quotient : ℕ) : Type 0 where
  pub from : quotient * divisor ≤ number
  pub below : number < (quotient + 1) * divisor

-- so often it is in the number, and so much is left
pub record IsDivision (number divisor quotient remainder : ℕ) : Type 0 where
  pub whole : number ≡ quotient * divisor + remainder
  pub less : remainder < divisor
