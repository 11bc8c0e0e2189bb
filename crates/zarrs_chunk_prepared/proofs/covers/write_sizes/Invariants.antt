use Rattle.std.proofs.Common.{◌≡◌, ◌<◌, ℕ, slice_index_or}
use Rattle.zarrs_chunk_prepared.specs.seen.PreparedGrid.{table_at}
use Rattle.zarrs_chunk_prepared.proofs.covers.write_sizes.Given as goal

-- the sizes so far
abbrev pub invariant-loop-dimension : goal.invariant-loop-dimension
invariant-loop-dimension l = (k : ℕ) → k < l.dimension → slice_index_or l.sizes k 0 ≡ (table_at l.axes k).grid_size
