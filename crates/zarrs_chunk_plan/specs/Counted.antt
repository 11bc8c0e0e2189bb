-- How many there are, as far as a number tells it.
use Rattle.std.specs.Prelude.{ℕ, Option, Some, None, cond, nat_le}
use Rattle.zarrs_chunk_base.specs.Greatest.{greatest}

-- the count, and none where it is past the greatest number
unfoldable pub counted : ℕ → Option ℕ
counted n = cond (nat_le n greatest) (Some n) None
