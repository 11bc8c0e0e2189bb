use Rattle.std.proofs.Common.{◌<◌, ℕ, slice_index_or}
use Rattle.zarrs_chunk_prepared.specs.seen.PreparedGrid.{IsRangeIn, table_at}
use Rattle.zarrs_chunk_prepared.proofs.boxes.write_box.Given as goal

-- the ranges of the chunks so far
abbrev pub invariant-loop-dimension : goal.invariant-loop-dimension
invariant-loop-dimension l =
    (k : ℕ) → k < l.dimension
    → IsRangeIn (table_at l.axes k) (slice_index_or l.chunk k 0) (slice_index_or l.origin k 0) (slice_index_or l.shape k 0)
