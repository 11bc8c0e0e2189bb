use Rattle.zarrs_chunk_plan.proofs.ByNumber.{IsNumbered}
use Rattle.zarrs_chunk_plan.proofs.shares.numbered_chunks.write_chunk.Given as goal

-- the dimensions that were looked at have their numbers
abbrev pub invariant-loop-dimension : goal.invariant-loop-dimension
invariant-loop-dimension l = IsNumbered l.start l.shape l.number l.dimension l.rest l.chunk
