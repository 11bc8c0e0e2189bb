use Rattle.std.proofs.Common.{◌≡◌, take}
use Rattle.zarrs_chunk_tasks.specs.Edges.{longest_of_each}
use Rattle.zarrs_chunk_tasks.proofs.edges.longest_edges.Given as goal

-- the longest ones along each dimension so far
abbrev pub invariant-loop-dimension : goal.invariant-loop-dimension
invariant-loop-dimension g l = l.edges.items ≡ take l.dimension (longest_of_each (g.G.ChunkGridTraits.dimensions l.grid) l.first l.many)
