use Rattle.zarrs_chunk_plan.proofs.Common.{◌∙◌, ap, chunks_of_boxes}
use Rattle.zarrs_chunk_plan.proofs.resize.OutsideBoxes.{no_box_more, one_box_more}
use Rattle.zarrs_chunk_plan.proofs.resize.outside.push_some.Goals as goal

pub returns-then-is_empty : goal.returns-then-is_empty
returns-then-is_empty c = record { chunks = no_box_more c.args.boxes.now.items c.args.added (c.is_empty.ensures.0 c.if-is_empty.true) }

pub returns : goal.returns
returns c = record { chunks = ap chunks_of_boxes c.in_ok-push.ensures.items ∙ one_box_more c.args.boxes.now.items c.args.added }
