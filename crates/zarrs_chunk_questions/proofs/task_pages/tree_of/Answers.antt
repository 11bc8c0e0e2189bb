use Rattle.std.proofs.Common.{◌≡◌, length, refl, rules, arith}
use Rattle.zarrs_chunk_plan.proofs.Walked.{planned_meet}
use Rattle.zarrs_chunk_tasks.specs.Tasks.{TaskPlan}
use Rattle.zarrs_chunk_questions.specs.seen.Copies.{dimensions_in}
use Rattle.zarrs_chunk_questions.proofs.PartsAhead.{its_parts, its_plan}
use Rattle.zarrs_chunk_questions.proofs.task_pages.tree_of.Goals as goal

pub parts_below-requires : goal.parts_below-requires
parts_below-requires c =
    let planned = rw c.in_ok-from.ensures at c.parts.ensures.planned in
    record { meet = planned_meet dimensions_in _ _ _ c.in_ok-from.from planned; is_box = rw planned.about.same_subset c.is_a_box.ensures }

pub parts_below-requires-2 : goal.parts_below-requires-2
parts_below-requires-2 c =
    let planned = rw c.in_ok-into.ensures at c.parts-2.ensures.planned in
    record { meet = planned_meet dimensions_in _ _ _ c.in_ok-into.into planned; is_box = rw planned.about.same_subset c.is_a_box-2.ensures }

-- it reads too many
pub returns-in_default : goal.returns-in_default
returns-in_default c =
    let task = c.args.task.now in
    let from = rw c.in_ok-from.ensures at c.parts.ensures.planned in
    let into = rw c.in_ok-into.ensures at c.parts-2.ensures.planned in
    let (read, are, many) = rw c.in_default.is at c.in_ok-read.ensures in
    let (written, writes) = its_parts c.args.target.now task.target c.in_ok-into.into into c.is_a_box-2.ensures in
    let plan : TaskPlan = (task, (read, written)) in (
      plan,
      refl,
      record { reads = its_plan c.args.source.now task.source c.in_ok-from.from from read are; writes = writes },
      omega arith,
    )

-- it writes too many besides
pub returns-in_default-2 : goal.returns-in_default-2
returns-in_default-2 c =
    let task = c.args.task.now in
    let from = rw c.in_ok-from.ensures at c.parts.ensures.planned in
    let into = rw c.in_ok-into.ensures at c.parts-2.ensures.planned in
    let are = rw c.in-Some.is at c.in_ok-read.ensures in
    let (written, also, many) = rw c.in_default-2.is at c.in_ok-written.ensures in
    let plan : TaskPlan = (task, (c.in-Some.read.items, written)) in
    let counted : c.len-count.result ≡ length c.in-Some.read.items = search rules in
    let less = c.saturating_sub.ensures in (
      plan,
      refl,
      record {
        reads = its_plan c.args.source.now task.source c.in_ok-from.from from c.in-Some.read.items are;
        writes = its_plan c.args.target.now task.target c.in_ok-into.into into written also;
      },
      grind arith,
    )

pub returns : goal.returns
returns c =
    let task = c.args.task.now in
    let from = rw c.in_ok-from.ensures at c.parts.ensures.planned in
    let into = rw c.in_ok-into.ensures at c.parts-2.ensures.planned in
    let are = rw c.in-Some.is at c.in_ok-read.ensures in
    let also = rw c.in-Some-2.is at c.in_ok-written.ensures in
    let plan : TaskPlan = (task, (c.in-Some.read.items, c.in-Some-2.written.items)) in (
      plan,
      refl,
      record {
        reads = its_plan c.args.source.now task.source c.in_ok-from.from from c.in-Some.read.items are;
        writes = its_plan c.args.target.now task.target c.in_ok-into.into into c.in-Some-2.written.items also;
      },
      (search rules, search rules),
    )
