use Rattle.std.proofs.Common.{ℕ, ◌<◌, slice_index_or}
use Rattle.zarrs_chunk_prepared.specs.seen.PreparedGrid.{Reaches, table_at}
use Rattle.zarrs_chunk_prepared.proofs.homes.reach.Given as goal

-- the indices so far lie in chunks
abbrev pub invariant-loop-dimension : goal.invariant-loop-dimension
invariant-loop-dimension l = (k : ℕ) → k < l.dimension → Reaches (table_at l.axes k) (slice_index_or l.index k 0)
