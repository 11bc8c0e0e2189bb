use Rattle.std.proofs.Common.{◌≡◌, ◌∙◌, ap, ap₂, drop, length, sym, rules, arith}
use Rattle.serde_json.specs.View.{view}
use Rattle.zarrs_chunk_questions.specs.Pages.{is_more, page_tree}
use Rattle.zarrs_chunk_questions.proofs.TaskPages.{all_counted, as_many_trees, long_tasks_page, still_have, tasks_page}
use Rattle.zarrs_chunk_questions.proofs.task_pages.tasks_from.Goals as goal

pub task_trees-requires-clause-can : goal.task_trees-requires-clause-can
task_trees-requires-clause-can c = let to = c.in_ok-skip_to.ensures in to.can c.in_ok-walk.ensures.1.can

pub task_trees-requires-clause-have : goal.task_trees-requires-clause-have
task_trees-requires-clause-have c =
    let gives = c.in_ok-walk.ensures.1 in
    let to = c.in_ok-skip_to.ensures in
    still_have c.args.copying.now c.in_ok-walk.walk c.skip_to.new.self c.args.first gives to.about (to.left ∙ ap (drop c.args.first) gives.all)

pub returns-in_default : goal.returns-in_default
returns-in_default c =
    let walk = c.in_ok-walk.walk in
    let (has, gives) = c.in_ok-walk.ensures in
    let to = c.in_ok-skip_to.ensures in
    let is_all = all_counted walk c.in_all.result c.unwrap_or-in_all.result gives.all c.in_all.ensures c.unwrap_or-in_all.ensures in
    let (plans, are, made) = c.in_ok-trees.ensures in
    long_tasks_page c.args.copying.now walk c.skip_to.new.self c.args.first gives to.about (to.left ∙ ap (drop c.args.first) gives.all)
    c.args.limits.now.most c.min-most.result c.unwrap_or-in_all.result has is_all (omega arith) plans are c.args.limits.now.too_many
    (rw c.in_default.is at made)

pub returns : goal.returns
returns c =
    let walk = c.in_ok-walk.walk in
    let (has, gives) = c.in_ok-walk.ensures in
    let to = c.in_ok-skip_to.ensures in
    let is_all = all_counted walk c.in_all.result c.unwrap_or-in_all.result gives.all c.in_all.ensures c.unwrap_or-in_all.ensures in
    let (plans, are, made) = c.in_ok-trees.ensures in
    let trees = c.in-Some.trees.items in
    let written = rw c.in-Some.is at made in
    let many : c.len-count.result ≡ length trees = search rules in
    tasks_page c.args.copying.now walk c.skip_to.new.self c.args.first gives to.about (to.left ∙ ap (drop c.args.first) gives.all)
    c.args.limits.now.most c.min-most.result c.unwrap_or-in_all.result has is_all (omega arith) plans are (view c.in_ok-page_tree.field-0)
    (c.in_ok-page_tree.ensures
    ∙ ap₂ (λ xs n. page_tree xs (is_more c.args.first n c.unwrap_or-in_all.result)) written (many ∙ sym (as_many_trees trees plans written)))
