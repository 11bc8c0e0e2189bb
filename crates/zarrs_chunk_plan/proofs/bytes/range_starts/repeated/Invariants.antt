use Rattle.zarrs_chunk_plan.proofs.Common.{◌≡◌}
use Rattle.zarrs_chunk_plan.specs.Bytes.{repeated}
use Rattle.zarrs_chunk_plan.proofs.bytes.range_starts.repeated.Given as goal

-- these are the numbers, as often as they were repeated
abbrev pub invariant-loop-times : goal.invariant-loop-times
invariant-loop-times l = l.all.items ≡ repeated l.times l.stride l.numbers
