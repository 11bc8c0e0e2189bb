use Rattle.std.proofs.Common.{◌≡◌, take}
use Rattle.zarrs_chunk_tasks.specs.seen.TriedEdges.{units_of}
use Rattle.zarrs_chunk_tasks.proofs.edges.units_along.Given as goal

-- there are the units of each dimension so far
abbrev pub invariant-loop-dimension : goal.invariant-loop-dimension
invariant-loop-dimension g l = l.units.items ≡ take l.dimension (units_of l.sizes l.read.items l.written.items)
