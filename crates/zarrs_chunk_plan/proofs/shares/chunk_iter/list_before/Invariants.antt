use Rattle.zarrs_chunk_plan.proofs.Common.{◌≡◌, ◌<◌, ◌++◌, drop}
use Rattle.zarrs_chunk_plan.specs.seen.Between.{digits}
use Rattle.zarrs_chunk_plan.proofs.shares.chunk_iter.list_before.Given as goal

-- behind the numbers so far come those of what is left of the way
abbrev pub invariant-loop-size : goal.invariant-loop-size
invariant-loop-size l = (l.rest < l.of) × (l.first.items ++ digits (drop l.size-index l.shape) l.rest l.of ≡ digits l.shape l.number l.of)
