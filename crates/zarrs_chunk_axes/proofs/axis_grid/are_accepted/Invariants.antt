use Rattle.zarrs_chunk_axes.proofs.MadeSoFar.{AcceptedSoFar}
use Rattle.zarrs_chunk_axes.proofs.axis_grid.are_accepted.Given as goal

-- what isn't left was accepted
abbrev pub invariant-loop-array_size : goal.invariant-loop-array_size
invariant-loop-array_size g l =
    AcceptedSoFar (λ size c. g.A.AxisFrom.accepted size (g.A.AxisFrom.tells c)) l.array_shape l.configurations l.array_size-iterator.a.rest.now
    l.array_size-iterator.b.rest.now
