use Rattle.zarrs_chunk_plan.proofs.Common.{◌≡◌, ◌++◌, counted_from}
use Rattle.zarrs_chunk_plan.proofs.copy.moved.sums.Given as goal

-- with the sums of the numbers that are left, these are all
abbrev pub invariant-loop-start : goal.invariant-loop-start
invariant-loop-start l = l.sums.items ++ counted_from l.start-iterator.a.rest.now l.start-iterator.b.rest.now ≡ counted_from l.first l.steps
