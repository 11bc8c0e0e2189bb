use Rattle.zarrs_chunk_plan.proofs.counts.HeldRanges.{HeldSoFar}
use Rattle.zarrs_chunk_plan.proofs.copy.chunk_elements.elements_in.Given as goal

-- what the chunks hold along the dimensions so far
abbrev pub invariant-loop-dimension : goal.invariant-loop-dimension
invariant-loop-dimension g l =
    HeldSoFar (g.G.ChunkGridTraits.dimensions l.grid) l.first l.last.items l.start.items l.shape.items l.dimension
