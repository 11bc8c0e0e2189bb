use Rattle.std.proofs.lemmas.Result.{IfOk-weaker}
use Rattle.zarrs_chunk_plan.proofs.SameBoxes.{chunks_of_same}
use Rattle.zarrs_chunk_plan.proofs.Walked.{planned_meet}
use Rattle.programs.specs.chunkplan.seen.Opened.{dimensions_in}
use Rattle.programs.proofs.chunkplan.task_lines.is_left_out.Goals as goal

pub all_stored-requires : goal.all_stored-requires
all_stored-requires c =
    record { meet = planned_meet dimensions_in _ _ _ c.in_ok-into.into (rw c.in_ok-into.ensures at c.parts.ensures.planned) }

-- the walk goes by the chunks of the plan, whatever box they are told by
pub returns : goal.returns
returns c =
    let planned = rw c.in_ok-into.ensures at c.parts.ensures.planned in
    IfOk-weaker c.all_stored.result _ _
    (λ is all plan writes.
    let same = chunks_of_same writes.cover planned.cover writes.is_cover.is_box planned.is_cover.is_box
    (λ chunk. (
      λ inside. (planned.is_cover.named chunk).1 ((writes.is_cover.named chunk).0 inside),
      λ inside. (writes.is_cover.named chunk).1 ((planned.is_cover.named chunk).0 inside),
    ))
    in
    rw c.in-Some.is (all plan.1.1
    (rw (planned.about.same_grid, planned.about.same_encoding, planned.about.same_subset, planned.left) (rw same at writes.are_parts))))
    c.all_stored.ensures
