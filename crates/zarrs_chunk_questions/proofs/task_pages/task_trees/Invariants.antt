use Rattle.std.proofs.Common.{◌≡◌, ◌+◌, ◌-◌, ◌≤◌, List, length, map}
use Rattle.serde_json.specs.View.{view}
use Rattle.zarrs_chunk_tasks.specs.Tasks.{TaskPlan}
use Rattle.zarrs_chunk_tasks.proofs.TasksBegun.{TasksHaveCome}
use Rattle.zarrs_chunk_questions.specs.Tasks.{task_tree}
use Rattle.zarrs_chunk_questions.specs.seen.Copies.{dimensions_in, key_in, parts_in}
use Rattle.zarrs_chunk_questions.proofs.task_pages.task_trees.Given as goal

-- the tasks so far are those of the groups that came, and are those written; too many parts are no more than those that are left, and theirs
abbrev pub invariant-tasks : goal.invariant-tasks
invariant-tasks l =
    (plans : List TaskPlan)
    × TasksHaveCome dimensions_in key_in l.source l.target l.initial.walk l.walk plans
    × (map view l.trees.items ≡ map task_tree plans)
    × (length l.trees.items ≤ l.most) × (l.too_many ≤ l.left + parts_in plans)

abbrev pub decreases-tasks : goal.decreases-tasks
decreases-tasks l = l.most - length l.trees.items
