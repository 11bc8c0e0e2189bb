use Rattle.zarrs_chunk_plan.proofs.Common.{drop, non_zero_u64_get}
use Rattle.zarrs_chunk_plan.specs.seen.Rows.{HasRanges}
use Rattle.zarrs_chunk_plan.proofs.bytes.ranges.some_ranges.Given as goal

-- these are the ranges of the box along the dimensions that were looked at
abbrev pub invariant-loop-dimension : goal.invariant-loop-dimension
invariant-loop-dimension l =
    HasRanges (non_zero_u64_get l.fn.item_size) (drop l.dimension l.edges) (drop l.dimension l.start) (drop l.dimension l.shape) l.rows
