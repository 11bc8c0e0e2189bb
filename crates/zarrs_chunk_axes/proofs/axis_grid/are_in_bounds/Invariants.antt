use Rattle.zarrs_chunk_axes.proofs.Bounds.{IsAxisInBounds}
use Rattle.zarrs_chunk_axes.proofs.MadeSoFar.{AcceptedSoFar}
use Rattle.zarrs_chunk_axes.proofs.axis_grid.are_in_bounds.Given as goal

-- what isn't left is in bounds
abbrev pub invariant-loop-index : goal.invariant-loop-index
invariant-loop-index g l =
    AcceptedSoFar (IsAxisInBounds g.A.Axis.dimension g.A.Axis.edges) l.indices l.axes l.index-iterator.a.rest.now l.index-iterator.b.rest.now
