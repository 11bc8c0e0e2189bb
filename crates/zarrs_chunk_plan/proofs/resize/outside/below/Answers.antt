use Rattle.zarrs_chunk_plan.proofs.Common.{◌∙◌, ◌++◌, ap, chunks_in, chunks_once, chunks_of_boxes}
use Rattle.zarrs_chunk_plan.proofs.resize.OutsideBoxes.{from_zero_below}
use Rattle.zarrs_chunk_plan.proofs.resize.outside.below.Goals as goal

pub returns-clause-those : goal.returns-clause-those
returns-clause-those c = λ chunk.
    let made = c.in_ok-box_from_zero in
    let chunks = c.in_ok-push_some.ensures.chunks ∙ ap (λ xs. chunks_of_boxes xs ++ chunks_in made.field-0) c.in_ok-boxes.ensures.items in
    rw chunks (from_zero_below c.args.sizes.now made.field-0 made.ensures.is_box made.ensures.value chunk)

pub returns-clause-once : goal.returns-clause-once
returns-clause-once c =
    let made = c.in_ok-box_from_zero in
    let chunks = c.in_ok-push_some.ensures.chunks ∙ ap (λ xs. chunks_of_boxes xs ++ chunks_in made.field-0) c.in_ok-boxes.ensures.items in
    rw chunks (chunks_once made.field-0 made.ensures.is_box)
