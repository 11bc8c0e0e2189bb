use Rattle.zarrs_chunk_plan.proofs.Common.{pairwise_min}
use Rattle.zarrs_chunk_plan.proofs.resize.OutsideBoxes.{HasGrown}
use Rattle.zarrs_chunk_plan.proofs.resize.outside.outside.Given as goal

-- the box has grown along the dimensions that were looked at
abbrev pub invariant-loop-dimension : goal.invariant-loop-dimension
invariant-loop-dimension l = HasGrown (pairwise_min l.inner l.outer) l.outer l.dimension l.shape.items l.boxes.items
