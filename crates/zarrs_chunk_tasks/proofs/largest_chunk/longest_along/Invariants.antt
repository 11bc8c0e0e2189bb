use Rattle.zarrs_chunk_axes.specs.Along.{Along}
use Rattle.zarrs_chunk_tasks.specs.seen.LargestChunk.{IsLongestOf}
use Rattle.zarrs_chunk_tasks.proofs.largest_chunk.longest_along.Given as goal

-- the longest one so far
abbrev pub invariant-loop-steps : goal.invariant-loop-steps
invariant-loop-steps g l = Along (IsLongestOf l.first l.steps l.longest) (g.G.ChunkGridTraits.dimensions l.grid) l.dimension
