use Rattle.zarrs_chunk_plan.proofs.Common.{◌≡◌, drop, begins}
use Rattle.zarrs_chunk_plan.proofs.bytes.range_starts.some_starts.Given as goal

-- these are where the ranges along the dimensions begin that were looked at
abbrev pub invariant-loop-dimension : goal.invariant-loop-dimension
invariant-loop-dimension l = l.starts.items ≡ begins l.first (drop l.dimension l.counts) (drop l.dimension l.strides)
