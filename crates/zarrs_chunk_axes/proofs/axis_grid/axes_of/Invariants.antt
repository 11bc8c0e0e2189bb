use Rattle.zarrs_chunk_axes.proofs.MadeSoFar.{MadeSoFar}
use Rattle.zarrs_chunk_axes.proofs.axis_grid.axes_of.Given as goal

-- with axes of what is left, the axes so far are those of all
abbrev pub invariant-loop-array_size : goal.invariant-loop-array_size
invariant-loop-array_size g l =
    MadeSoFar (λ size c. g.A.AxisFrom.accepted size (g.A.AxisFrom.tells c)) g.A.Axis.dimension
    (λ d size c. g.A.AxisFrom.is_made_of d size (g.A.AxisFrom.tells c))
    g.A.Axis.edges g.A.AxisFrom.tells l.array_shape l.configurations l.array_size-iterator.a.rest.now
    l.array_size-iterator.b.rest.now l.axes.items
