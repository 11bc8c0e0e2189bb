use Rattle.zarrs_chunk_tasks.specs.seen.Choices.{rows_of}
use Rattle.zarrs_chunk_tasks.proofs.TwoStages.{IsShapeTo}
use Rattle.zarrs_chunk_tasks.proofs.between.shape_at.Given as goal

-- the edges so far, and the shape of what is left of the number, are the shape
abbrev pub invariant-loop-row : goal.invariant-loop-row
invariant-loop-row l = IsShapeTo (rows_of l.edges) l.number l.row-index l.left l.shape.items
