use Rattle.std.proofs.Common.{ℕ, ◌<◌, length, slice_index_or}
use Rattle.zarrs_chunk_prepared.specs.seen.PreparedGrid.{IsChunkIn, IsPlaceIn, table_at}
use Rattle.zarrs_chunk_prepared.proofs.homes.write_home.Given as goal

-- the chunks and places of the indices so far
abbrev pub invariant-loop-dimension : goal.invariant-loop-dimension
invariant-loop-dimension l = record {
  chunks : (k : ℕ) → k < l.dimension → IsChunkIn (table_at l.axes k) (slice_index_or l.index k 0) (slice_index_or l.chunk k 0);
  places : (k : ℕ) → k < l.dimension → k < length l.place
      → IsPlaceIn (table_at l.axes k) (slice_index_or l.index k 0) (slice_index_or l.chunk k 0) (slice_index_or l.place k 0);
}
