use Rattle.zarrs_chunk_tasks.proofs.LargestChunk.{IsLargestSoFar}
use Rattle.zarrs_chunk_tasks.proofs.largest_chunk.largest_chunk.Given as goal

-- the largest one so far
abbrev pub invariant-loop-dimension : goal.invariant-loop-dimension
invariant-loop-dimension g l = IsLargestSoFar (g.G.ChunkGridTraits.dimensions l.grid) l.first l.many l.dimension l.largest
