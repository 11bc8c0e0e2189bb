use Rattle.zarrs_chunk_plan.proofs.Common.{◌≡◌, Some, subst, slice_get, IsBox, chunks_in}
use Rattle.zarrs_chunk_plan.proofs.shares.FromNumber.{at_number}
use Rattle.zarrs_chunk_plan.proofs.shares.chunk_iter.list_at.Goals as goal

pub returns : goal.returns
returns c =
    let list = c.in_ok-list.list.items in
    let at = subst (λ b. slice_get (chunks_in b) c.args.number ≡ Some list) c.in_ok-lists.ensures.value c.in_ok-list.ensures in
    at_number c.args.shape.now list c.args.number (subst IsBox c.in_ok-lists.ensures.value c.in_ok-lists.ensures.is_box) at
