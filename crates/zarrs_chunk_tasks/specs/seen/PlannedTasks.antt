-- The tasks that a walk has to give, each with its parts.
use Rattle.std.specs.Prelude.{◌≡◌, ℕ, List, map}
use Rattle.std.specs.Int.NonZero.{non_zero_u64_get}
use Rattle.std.specs.List.{AllByRecursion, AllZip}
use Rattle.zarrs_chunk_base.specs.ArraySubset.{Box}
use Rattle.zarrs_chunk_base.specs.Dimension.{Dimension}
use Rattle.zarrs_chunk_plan.specs.declared.stored_array.StoredArray.{StoredArray}
use Rattle.zarrs_chunk_tasks.specs.Tasks.{AreTasksBy, HasParts, IsTask, TaskPlan}
use Rattle.zarrs_chunk_tasks.specs.declared.order.Order.{Order}
use Rattle.zarrs_chunk_tasks.specs.declared.walk.Tasks.{Tasks}
use Rattle.zarrs_chunk_tasks.specs.seen.Tasks.{CanGive, all_groups, groups_to_come}

module _ {G E : Type 0} (dimensions : G → List Dimension) (is_key : E → List ℕ → List ℕ → Type 0) (source target : StoredArray G E) where
  -- the parts of a task from one array to the other
  abbrev pub HasPartsOf : TaskPlan → Type 0
  HasPartsOf = HasParts (dimensions source.grid) (dimensions target.grid) (is_key source.encoding) (is_key target.encoding)

  module _ (walk : Tasks G) where
    -- the task of a group, with its parts
    abbrev pub IsPlanOf : (group : List ℕ) → TaskPlan → Type 0
    IsPlanOf group plan =
        IsTask (dimensions walk.grid.now) (map non_zero_u64_get walk.each.now) walk.elements walk.first.items walk.at.items group plan.0 × HasPartsOf plan

    -- what the walk has to give, with the parts
    abbrev pub PlansToCome : List TaskPlan → Type 0
    PlansToCome = AllZip IsPlanOf (groups_to_come walk)

    -- and that there is that
    abbrev pub HavePlans : List (List ℕ) → Type 0
    HavePlans = AllByRecursion (λ group. (plan : TaskPlan) × IsPlanOf group plan)

    -- a walk at its beginning: what it has to give are the tasks of a copy with their parts
    pub record GivesPlans (order : Order) (region : Box) (at each : List ℕ) : Type 0 where
      pub can : CanGive dimensions walk
      pub all : all_groups walk ≡ groups_to_come walk
      pub have : HavePlans (groups_to_come walk)
      pub are_tasks : (plans : List TaskPlan) → PlansToCome plans
          → AreTasksBy order (dimensions source.grid) (dimensions target.grid) each region at (map (λ (plan : TaskPlan). plan.0) plans)
      pub have_parts : (plans : List TaskPlan) → PlansToCome plans → AllByRecursion HasPartsOf plans
