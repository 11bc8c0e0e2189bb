use Rattle.zarrs_chunk_prepared.specs.Prepared.{grid_mark}
use Rattle.zarrs_chunk_prepared.proofs.GridTables.{AreSoFar}
use Rattle.std.proofs.Common.{length}
use Rattle.zarrs_chunks.specs.seen.Grids.{grid_in}
use Rattle.zarrs_chunk_prepared.proofs.write.prepare_grid.Given as goal

-- the numbers of the dimensions so far
abbrev pub invariant-loop-dimension : goal.invariant-loop-dimension
invariant-loop-dimension l =
    AreSoFar grid_mark (length l.edges-items) (grid_in l.grid).dimensions (grid_in l.grid).edges l.dimension l.numbers.items
