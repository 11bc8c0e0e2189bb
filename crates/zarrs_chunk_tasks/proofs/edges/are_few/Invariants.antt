use Rattle.std.proofs.Common.{take}
use Rattle.std.specs.List.{AllByRecursion}
use Rattle.zarrs_chunk_tasks.specs.seen.TriedEdges.{IsFew}
use Rattle.zarrs_chunk_tasks.proofs.edges.are_few.Given as goal

-- each dimension so far has few pieces
abbrev pub invariant-loop-along : goal.invariant-loop-along
invariant-loop-along l = AllByRecursion IsFew (take l.along-index l.units)
