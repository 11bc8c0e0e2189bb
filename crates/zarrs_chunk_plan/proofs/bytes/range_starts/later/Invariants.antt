use Rattle.zarrs_chunk_plan.proofs.Common.{◌≡◌, ◌+◌, map, take}
use Rattle.zarrs_chunk_plan.proofs.bytes.range_starts.later.Given as goal

-- these are the sums of the numbers so far
abbrev pub invariant-loop-number : goal.invariant-loop-number
invariant-loop-number l = l.sums.items ≡ map (λ n. n + l.shift) (take l.number-index l.numbers)
