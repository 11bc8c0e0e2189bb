use Rattle.zarrs_chunk_axes.specs.InBounds.{IsInBounds}
use Rattle.zarrs_chunk_axes.proofs.MadeSoFar.{AcceptedSoFar}
use Rattle.zarrs_chunk_axes.proofs.in_bounds.are_in_bounds.Given as goal

-- what isn't left is in bounds
abbrev pub invariant-loop-size : goal.invariant-loop-size
invariant-loop-size l = AcceptedSoFar IsInBounds l.sizes l.numbers l.size-iterator.a.rest.now l.size-iterator.b.rest.now
