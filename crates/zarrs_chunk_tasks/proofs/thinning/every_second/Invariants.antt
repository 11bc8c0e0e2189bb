use Rattle.zarrs_chunk_tasks.proofs.ThinnedRows.{AreHalf}
use Rattle.zarrs_chunk_tasks.proofs.thinning.every_second.Given as goal

-- there are so many items, of the first ones of each two
abbrev pub invariant-loop-half : goal.invariant-loop-half
invariant-loop-half g l = AreHalf l.row l.half l.part.items
