use Rattle.zarrs_chunk_axes.specs.Along.{Along}
use Rattle.zarrs_chunk_tasks.specs.seen.Least.{AreNoShorter}
use Rattle.zarrs_chunk_tasks.proofs.least.shortest_along.Given as goal

-- none so far is shorter
abbrev pub invariant-loop-steps : goal.invariant-loop-steps
invariant-loop-steps g l = Along (AreNoShorter l.first l.steps l.shortest) (g.G.ChunkGridTraits.dimensions l.grid) l.dimension
