-- The dimensions of the tests' grid that asks for no box twice: along the first one chunk, which ends past the greatest number; along the
-- second as many chunks of one element as can be counted.
use Rattle.std.specs.Prelude.{◌+◌, ◌<◌, true, List, [], ◌∷◌, nat_lt, refl}
use Rattle.std.specs.List.{AllByRecursion}
use Rattle.std.proofs.Common.{arith, ltb-true, lt-ltb}
use Rattle.zarrs_chunk_base.specs.Dimension.{Dimension, IsChain}
use Rattle.zarrs_chunk_base.specs.Greatest.{greatest}

abbrev pub long : Dimension
long = record { array_size = greatest; grid_size = 1; has_chunk = λ c. nat_lt c 1; start = λ _. 0; end = λ _. greatest + 1 }

abbrev pub fine : Dimension
fine = record { array_size = greatest; grid_size = greatest; has_chunk = λ _. true; start = λ c. c; end = λ c. c + 1 }

abbrev pub overlong : List Dimension
overlong = long ∷ fine ∷ []

long_is_chain : IsChain long
long_is_chain = record {
  from_zero = λ _. refl;
  not_empty = λ c h. omega arith;
  no_gap = λ c h. let none : c + 1 < 1 = ltb-true (c + 1) 1 h in absurd (omega arith);
  counted = λ c h. lt-ltb c 1 h;
  reaches = λ i h. (0, omega arith, record { chunk = refl; from = omega arith; below = omega arith });
}

fine_is_chain : IsChain fine
fine_is_chain = record {
  from_zero = λ _. refl;
  not_empty = λ c h. omega arith;
  no_gap = λ c h. (refl, refl);
  counted = λ c h. refl;
  reaches = λ i h. (i, h, record { chunk = refl; from = omega arith; below = omega arith });
}

pub overlong_are_chains : AllByRecursion IsChain overlong
overlong_are_chains = (long_is_chain, (fine_is_chain, tt))
