use Rattle.std.proofs.Common.{◌≤◌}
use Rattle.zarrs_chunk_tasks.proofs.between.likely_shape.Given as goal

-- it is the number of a shape, if there is one
abbrev pub invariant-loop-number : goal.invariant-loop-number
invariant-loop-number g l = l.likely ≤ l.shapes
