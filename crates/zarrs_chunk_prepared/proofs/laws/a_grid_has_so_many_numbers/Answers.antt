use Rattle.zarrs_chunk_prepared.proofs.Lengths.{rows_long}
use Rattle.std.proofs.Common.{ap, arith, length}
use Rattle.zarrs_chunk_prepared.proofs.laws.a_grid_has_so_many_numbers.Goals as goal

pub returns : goal.returns
returns c grid numbers runs (tables, are, short, is) counts =
    omega (arith, ap length is, rows_long grid.dimensions grid.edges tables runs are short counts)
