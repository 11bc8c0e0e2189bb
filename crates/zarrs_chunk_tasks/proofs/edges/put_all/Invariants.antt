use Rattle.zarrs_chunk_tasks.specs.seen.TriedEdges.{edges_in}
use Rattle.zarrs_chunk_tasks.proofs.TriedEdges.{IsSoFar}
use Rattle.zarrs_chunk_tasks.proofs.edges.put_all.Given as goal

-- the edges of up to so many pieces are there
abbrev pub invariant-loop-multiple : goal.invariant-loop-multiple
invariant-loop-multiple l = IsSoFar l.size l.unit l.units (edges_in l.fn.edges.items) l.pieces l.multiple (edges_in l.edges.items)

abbrev pub decreases-loop-multiple : goal.decreases-loop-multiple
decreases-loop-multiple l = l.multiple
