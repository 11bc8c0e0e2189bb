-- How running sums that are compared with a number are seen.
use Rattle.std.specs.Prelude.{ℕ, Bool, nat_lt, List, slice_index_or}

-- whether the sum at a place is greater than a number
abbrev pub compared : List ℕ → ℕ → ℕ → Bool
compared sums sought place = nat_lt sought (slice_index_or sums place 0)
