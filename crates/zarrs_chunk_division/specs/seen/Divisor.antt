-- What a divisor stands for.
use Rattle.std.specs.Prelude.{ℕ}
use Rattle.std.specs.Int.NonZero.{non_zero_u64_get}
use Rattle.zarrs_chunk_division.specs.declared.divisor.Divisor.{Divisor}

-- the number that is divided by
abbrev pub divisor_of : Divisor → ℕ
divisor_of d = non_zero_u64_get d.divisor
