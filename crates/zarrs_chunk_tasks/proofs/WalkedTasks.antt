-- The tasks that came of a walk, one for each group that came; at the end they are those of the copy.
use Rattle.std.proofs.Common.{◌≡◌, ◌∙◌, ℕ, List, [], ◌∷◌, ◌++◌, Some, None, Ok, map, append-nil, ap, refl, subst, sym}
use Rattle.std.specs.Int.NonZero.{non_zero_u64_get}
use Rattle.std.specs.Iterator.{Drains}
use Rattle.std.specs.List.{AllZip}
use Rattle.zarrs_chunk_base.specs.ArraySubset.{Box}
use Rattle.zarrs_chunk_base.specs.Dimension.{Dimension}
use Rattle.zarrs_chunk_plan.proofs.Walked.{all_given, one_came}
use Rattle.zarrs_chunk_tasks.specs.Tasks.{AreTasks, IsTask}
use Rattle.zarrs_chunk_tasks.specs.declared.task.Task.{Task}
use Rattle.zarrs_chunk_tasks.specs.declared.walk.Tasks.{Tasks}
use Rattle.zarrs_chunk_tasks.specs.seen.Tasks.{ArePlanned, AreTasksToCome, CanGive, GivesTask, IsAboutTasks, groups_to_come}

module _ {G : Type 0} (dimensions : G → List Dimension) (begin : Tasks G) where
  abbrev IsTaskOf : List ℕ → Task → Type 0
  IsTaskOf = IsTask (dimensions begin.grid.now) (map non_zero_u64_get begin.each.now) begin.elements begin.first.items begin.at.items

  abbrev IsAbout : Tasks G → Type 0
  IsAbout = IsAboutTasks begin.grid.now (map non_zero_u64_get begin.each.now) begin.elements begin.first.items begin.at.items

  -- these groups came, of which these are the tasks
  abbrev HaveCome : Tasks G → List Task → Type 0
  HaveCome now tasks = (came : List (List ℕ)) × (groups_to_come begin ≡ came ++ groups_to_come now) × AllZip IsTaskOf came tasks × IsAbout now
      × CanGive dimensions now

  one_more : (before after : Tasks G) (task : Task) (tasks more : List Task) → HaveCome before tasks
      → GivesTask dimensions before (Some (Ok task)) after → more ≡ tasks ++ task ∷ [] → HaveCome after more
  one_more before after task tasks more (came, left, are, about, can) gives is =
      let (now_came, all, now_are) = one_came IsTaskOf (groups_to_come begin) came (groups_to_come before) (groups_to_come after) task.group.items
      task tasks more left gives.gives are
      (rw (← about.same_grid, ← about.same_each, ← about.same_elements, ← about.same_first, ← about.same_at) (gives.task can)) is
      in (
        now_came,
        all,
        now_are,
        rw (about.same_grid, about.same_each, about.same_elements, about.same_first, about.same_at) at gives.about,
        gives.can can,
      )

  at_last : (before after : Tasks G) (tasks : List Task) → HaveCome before tasks → GivesTask dimensions before None after
      → AreTasksToCome dimensions begin tasks
  at_last before after tasks (came, left, are, about, can) gives =
      subst (λ groups. AllZip IsTaskOf groups tasks) (sym (left ∙ ap (λ xs. came ++ xs) gives.gives.0 ∙ append-nil came)) are

  -- so what a walk gives up to its end are the tasks to come
  pub all_to_come : (given : List Task) → CanGive dimensions begin → Drains (GivesTask dimensions) begin (map Ok given)
      → AreTasksToCome dimensions begin given
  all_to_come given can =
      all_given (GivesTask dimensions) HaveCome (AreTasksToCome dimensions begin) one_more at_last begin given
      ([], refl, tt, record { same_grid = refl; same_each = refl; same_elements = refl; same_first = refl; same_at = refl }, can)

-- the tasks of all groups that hold some of the elements are those of the copy
pub tasks_of : {G : Type 0} (dimensions : G → List Dimension) (grid : G) (each : List ℕ) (elements : Box) (first at : List ℕ) (walk : Tasks G)
    (all : List Task) → ArePlanned dimensions grid each elements first at walk → AreTasksToCome dimensions walk all
    → AreTasks (dimensions grid) each elements first at all
tasks_of dimensions grid each elements first at walk all planned are =
    let about = planned.about in
    record {
      groups = planned.groups;
      is_box = planned.is_box;
      named = planned.are_groups;
      are_tasks = rw (← planned.left, ← about.same_grid, ← about.same_each, ← about.same_elements, ← about.same_first, ← about.same_at) are;
    }
