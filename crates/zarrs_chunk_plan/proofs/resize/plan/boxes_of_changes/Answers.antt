use Rattle.zarrs_chunk_plan.proofs.resize.OutsideBoxes.{told_of, told_once}
use Rattle.zarrs_chunk_plan.proofs.resize.plan.boxes_of_changes.Goals as goal

pub returns-clause-those : goal.returns-clause-those
returns-clause-those c = λ chunk.
    let added = rw (c.deref.ensures.value, c.deref-2.ensures.value) at c.in_ok-added.ensures.those in
    rw c.in_ok-append.ensures.items
    (told_of _ _ _ _ _ _ c.in_ok-boxes.ensures.those added _)

pub returns-clause-once : goal.returns-clause-once
returns-clause-once c =
    let added = rw (c.deref.ensures.value, c.deref-2.ensures.value) at c.in_ok-added.ensures.those in
    rw c.in_ok-append.ensures.items
    (told_once _ _ _ _ _ _ c.in_ok-boxes.ensures.those added c.in_ok-boxes.ensures.once c.in_ok-added.ensures.once)
