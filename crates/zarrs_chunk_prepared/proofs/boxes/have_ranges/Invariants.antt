use Rattle.std.proofs.Common.{◌<◌, ℕ, slice_index_or}
use Rattle.zarrs_chunk_prepared.specs.seen.PreparedGrid.{HasSomeRangeIn, table_at}
use Rattle.zarrs_chunk_prepared.proofs.boxes.have_ranges.Given as goal

-- the numbers so far have ranges
abbrev pub invariant-loop-dimension : goal.invariant-loop-dimension
invariant-loop-dimension l = (k : ℕ) → k < l.dimension → HasSomeRangeIn (table_at l.axes k) (slice_index_or l.chunk k 0)
