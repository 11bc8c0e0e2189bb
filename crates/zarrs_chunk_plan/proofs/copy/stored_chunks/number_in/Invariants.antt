use Rattle.zarrs_chunk_plan.proofs.Common.{◌≡◌, min, take, greatest}
use Rattle.zarrs_chunk_plan.specs.seen.StoredChunks.{place_of}
use Rattle.zarrs_chunk_plan.proofs.copy.stored_chunks.number_in.Given as goal

-- the number that the dimensions so far give
abbrev pub invariant-loop-dimension : goal.invariant-loop-dimension
invariant-loop-dimension l = l.number ≡ min (place_of (take l.dimension l.start) (take l.dimension l.shape) (take l.dimension l.chunk)) greatest
