-- What is left of a walk over the tasks of a copy.
use Rattle.std.specs.Prelude.{◌≡◌, ◌≢◌, ◌↔◌, ℕ, List, [], map, Option, Some, None, Result, Ok, Err}
use Rattle.std.specs.Int.NonZero.{non_zero_u64_get}
use Rattle.std.specs.List.{AllByRecursion, AllZip}
use Rattle.std.specs.declared.alloc.AllocError.{AllocError}
use Rattle.zarrs_chunk_base.specs.ArraySubset.{Box, IsBox, IsEmptyBox, IsInside}
use Rattle.zarrs_chunk_base.specs.Dimension.{Dimension}
use Rattle.zarrs_chunks.specs.Subsets.{IsCover}
use Rattle.zarrs_chunks.specs.Walks.{Gives, chunks_in}
use Rattle.zarrs_chunk_plan.specs.Region.{moved}
use Rattle.zarrs_chunk_plan.specs.seen.ChunkIter.{all_between, chunks_between, offsets_between}
use Rattle.zarrs_chunk_tasks.specs.Groups.{HoldsSomeOf}
use Rattle.zarrs_chunk_tasks.specs.Tasks.{IsTask}
use Rattle.zarrs_chunk_tasks.specs.declared.order.Order.{Order}
use Rattle.zarrs_chunk_tasks.specs.declared.order.Order.TheVariants.{Source, Target}
use Rattle.zarrs_chunk_tasks.specs.declared.task.Task.{Task}
use Rattle.zarrs_chunk_tasks.specs.declared.walk.Tasks.{Tasks}

-- the groups in a box of group numbers are those that hold some of a box of elements
abbrev pub AreGroups : List Dimension → (each : List ℕ) → (elements groups : Box) → Type 0
AreGroups ds each elements groups = (group : List ℕ) → IsInside groups group ↔ HoldsSomeOf ds each elements group

module _ {G : Type 0} where
  -- the groups of which the tasks are still to come; and they, counted from the first one
  abbrev pub groups_to_come : Tasks G → List (List ℕ)
  groups_to_come walk = chunks_between walk.groups

  abbrev pub offsets_to_come : Tasks G → List (List ℕ)
  offsets_to_come walk = offsets_between walk.groups

  -- the groups of all tasks: those to come, those that came, and those that a share leaves out
  abbrev pub all_groups : Tasks G → List (List ℕ)
  all_groups walk = all_between walk.groups

  -- the walk is over this grid, these numbers of its chunks a group, and this box of elements, which is copied from `first` on to `at` on
  pub record IsAboutTasks (grid : G) (each : List ℕ) (elements : Box) (first at : List ℕ) (walk : Tasks G) : Type 0 where
    pub same_grid : walk.grid.now ≡ grid
    pub same_each : map non_zero_u64_get walk.each.now ≡ each
    pub same_elements : walk.elements ≡ elements
    pub same_first : walk.first.items ≡ first
    pub same_at : walk.at.items ≡ at

  -- two walks are over the same
  abbrev pub IsSameCopy : (before after : Tasks G) → Type 0
  IsSameCopy before after =
      IsAboutTasks before.grid.now (map non_zero_u64_get before.each.now) before.elements before.first.items before.at.items after

  -- the walk knows the cover of the elements, and each group of all tasks holds some of them, so each to come does
  pub record CanGive (dimensions : G → List Dimension) (walk : Tasks G) : Type 0 where
    pub cover : (¬ IsEmptyBox walk.elements) → IsCover (dimensions walk.grid.now) walk.elements walk.cover
    pub all : AllByRecursion (HoldsSomeOf (dimensions walk.grid.now) (map non_zero_u64_get walk.each.now) walk.elements) (all_groups walk)
    pub hold : AllByRecursion (HoldsSomeOf (dimensions walk.grid.now) (map non_zero_u64_get walk.each.now) walk.elements) (groups_to_come walk)

  -- the tasks that the walk has to give: one for each group to come
  abbrev pub AreTasksToCome : (G → List Dimension) → Tasks G → List Task → Type 0
  AreTasksToCome dimensions walk =
      AllZip (IsTask (dimensions walk.grid.now) (map non_zero_u64_get walk.each.now) walk.elements walk.first.items walk.at.items) (groups_to_come walk)

  -- the walk has to give the tasks of a copy
  pub record ArePlanned (dimensions : G → List Dimension) (grid : G) (each : List ℕ) (elements : Box) (first at : List ℕ) (walk : Tasks G) : Type 0 where
    pub about : IsAboutTasks grid each elements first at walk
    pub can : CanGive dimensions walk
    pub groups : Box
    pub is_box : IsBox groups
    pub are_groups : AreGroups (dimensions grid) each elements groups
    pub left : groups_to_come walk ≡ chunks_in groups
    pub all : all_groups walk ≡ chunks_in groups

-- the walk has to give the tasks of the copy of a region, by groups of the chunks of one of two grids
abbrev pub ArePlannedBy : {G : Type 0} → Order → (G → List Dimension) → (source target : G) → (each : List ℕ) → (region : Box) → (at : List ℕ) → Tasks G → Type 0
ArePlannedBy Target dimensions source target each region at = ArePlanned dimensions target each (moved at region) region.start at
ArePlannedBy Source dimensions source target each region at = ArePlanned dimensions source each region region.start at

-- what holds of a task, where `next` gave one
abbrev pub IfTask : (Task → Type 0) → Option (Result Task AllocError) → Type 0
IfTask P (Some (Ok task)) = P task
IfTask P (Some (Err _)) = Unit {0}
IfTask P None = Unit {0}

-- `next` gives the task of the first group to come, and the others are to come then; nothing, at the end; or out of memory. The walk is over the same
-- as before.
pub record GivesTask {G : Type 0} (dimensions : G → List Dimension) (before : Tasks G) (given : Option (Result Task AllocError)) (after : Tasks G) : Type 0 where
  pub gives : Gives offsets_to_come groups_to_come (λ task. task.group.items) (λ offsets. offsets ≢ []) before given after
  pub task : CanGive dimensions before
      → IfTask (λ task. IsTask (dimensions before.grid.now) (map non_zero_u64_get before.each.now) before.elements before.first.items before.at.items
      task.group.items task) given
  pub about : IsSameCopy before after
  pub can : CanGive dimensions before → CanGive dimensions after
  pub all : all_groups after ≡ all_groups before
