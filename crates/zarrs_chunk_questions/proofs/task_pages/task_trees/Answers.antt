use Rattle.std.proofs.Common.{◌≡◌, ◌≤◌, ◌++◌, [], ◌∷◌, ap, length, length-append, map, refl, rules, arith}
use Rattle.serde_json.specs.View.{view}
use Rattle.zarrs_chunk_tasks.specs.seen.Tasks.{groups_to_come}
use Rattle.zarrs_chunk_tasks.proofs.TasksBegun.{first_task, one_more_task}
use Rattle.zarrs_chunk_questions.specs.seen.Copies.{IsPlanOf, dimensions_in, key_in}
use Rattle.zarrs_chunk_questions.proofs.TaskPages.{all_came, as_many_came, as_many_plans, as_many_trees, one_tree_more, parts_pushed}
use Rattle.zarrs_chunk_questions.proofs.task_pages.task_trees.Goals as goal

pub tasks-init : goal.tasks-init
tasks-init c =
    let none : c.new-trees.result.items ≡ [] = c.new-trees.ensures.items in
    let zero : length c.new-trees.result.items ≡ 0 = ap length none in (
      [],
      first_task dimensions_in key_in c.args.source.now c.args.target.now c.args.walk.now c.args.walk.now refl c.requires.can,
      ap (map view) none,
      omega arith,
      omega arith,
    )

pub tasks-preserved : goal.tasks-preserved
tasks-preserved c =
    let (plans, have, written, few, enough) = c.tasks.invariant in
    let (plan, is_task, parts, made) = c.in_ok-tree.ensures in
    let (many, told) = rw c.in-Some-2.is at made in
    let pushed = parts_pushed plans plan in
    let trees = c.tasks.trees.items in
    let more = c.push.new.self.items in
    let tree = c.in-Some-2.tree in
    let longer : more ≡ trees ++ tree ∷ [] = c.in_ok-push.ensures.items in
    let counted : c.len.result ≡ length trees = search rules in
    let gives = rw (← is_task) at (rw c.in_ok-task-in-Some.was at c.in-Some.ensures.steps) in (
      plans ++ plan ∷ [],
      one_more_task dimensions_in key_in c.args.source.now c.args.target.now c.args.walk.now c.tasks.walk c.next.new.self plan plans have gives parts,
      one_tree_more trees more tree plans plan written told longer,
      let long = ap length longer in grind arith,
      let less = c.saturating_sub-left.ensures in grind arith,
    )

-- too many parts
pub returns-in_default : goal.returns-in_default
returns-in_default c =
    let (plans, have, written, few, enough) = c.tasks.invariant in
    let (plan, is_task, parts, made) = c.in_ok-tree.ensures in
    let many = rw c.in_default.is at made in
    let gives = rw (← is_task) at (rw c.in_ok-task-in-Some.was at c.in-Some.ensures.steps) in
    let more = plans ++ plan ∷ [] in
    let pushed = parts_pushed plans plan in
    let as_many = as_many_trees c.tasks.trees.items plans written in
    let long = length-append plans (plan ∷ []) in
    let counted : c.len.result ≡ length c.tasks.trees.items = search rules in
    let below = c.tasks-test.true in
    as_many_plans c.args.source.now c.args.target.now c.args.walk.now c.next.new.self more c.args.most c.args.too_many c.requires.have
    (one_more_task dimensions_in key_in c.args.source.now c.args.target.now c.args.walk.now c.tasks.walk c.next.new.self plan plans have gives parts)
    (grind arith) (omega arith)

pub returns-in-None : goal.returns-in-None
returns-in-None c =
    let (plans, (came, split, are, about, can), written, few, enough) = c.tasks.invariant in
    let gives = c.in-None.ensures.steps in
    let as_many = as_many_trees c.tasks.trees.items plans written in
    let no_more : length plans ≤ c.args.most = omega arith in (
      plans,
      all_came (IsPlanOf c.args.source.now c.args.target.now c.args.walk.now) (groups_to_come c.args.walk.now) came (groups_to_come c.tasks.walk) plans
          c.args.most split are gives.gives.0 no_more,
      written,
    )

pub returns : goal.returns
returns c =
    let (plans, (came, split, are, about, can), written, few, enough) = c.tasks.invariant in
    let counted : c.len.result ≡ length c.tasks.trees.items = search rules in
    let as_many = as_many_trees c.tasks.trees.items plans written in
    let ended = c.tasks-test.false in
    let many : length plans ≡ c.args.most = omega arith in (
      plans,
      as_many_came (IsPlanOf c.args.source.now c.args.target.now c.args.walk.now) (groups_to_come c.args.walk.now) came (groups_to_come c.tasks.walk)
          plans c.args.most split are many,
      written,
    )
