-- The tasks that a walk has to give are those of the copy, each with its parts.
use Rattle.std.proofs.Common.{◌∙◌, ℕ, List, [], ◌∷◌, map, sym}
use Rattle.std.specs.Int.NonZero.{non_zero_u64_get}
use Rattle.std.specs.List.{AllByRecursion, AllZip}
use Rattle.std.specs.declared.num.NonZeroU64.{NonZeroU64}
use Rattle.zarrs_chunk_base.specs.ArraySubset.{Box}
use Rattle.zarrs_chunk_base.specs.Dimension.{Dimension, IsChain, array_sizes}
use Rattle.zarrs_chunk_base.specs.Greatest.{AllFit}
use Rattle.zarrs_chunk_plan.specs.seen.Parts.{HasKeys}
use Rattle.zarrs_chunk_plan.specs.declared.stored_array.StoredArray.{StoredArray}
use Rattle.zarrs_chunk_tasks.specs.Groups.{HoldsSomeOf}
use Rattle.zarrs_chunk_tasks.specs.Tasks.{AreTasks, HasTasks, IsTask, TaskPlan}
use Rattle.zarrs_chunk_tasks.specs.declared.order.Order.{Order}
use Rattle.zarrs_chunk_tasks.specs.declared.order.Order.TheVariants.{Source, Target}
use Rattle.zarrs_chunk_tasks.specs.declared.task.Task.{Task}
use Rattle.zarrs_chunk_tasks.specs.declared.walk.Tasks.{Tasks}
use Rattle.zarrs_chunk_tasks.specs.seen.PlannedTasks.{GivesPlans, HasPartsOf, HavePlans, IsPlanOf, PlansToCome}
use Rattle.zarrs_chunk_tasks.specs.seen.Tasks.{ArePlanned, ArePlannedBy, groups_to_come}
use Rattle.zarrs_chunk_tasks.proofs.TaskPlans.{plan_by_source, plan_by_target}
use Rattle.zarrs_chunk_tasks.proofs.WalkedTasks.{tasks_of}

each_follows : {X : Type 0} (P Q : X → Type 0) → ((x : X) → P x → Q x) → (xs : List X) → AllByRecursion P xs → AllByRecursion Q xs
each_follows P Q step [] all = tt
each_follows P Q step (x ∷ xs) all = (step x all.0, each_follows P Q step xs all.1)

module _ {G E : Type 0} (dimensions : G → List Dimension) (is_key : E → List ℕ → List ℕ → Type 0) (source target : StoredArray G E) (walk : Tasks G) where
  abbrev IsTaskOf : List ℕ → Task → Type 0
  IsTaskOf = IsTask (dimensions walk.grid.now) (map non_zero_u64_get walk.each.now) walk.elements walk.first.items walk.at.items

  -- a task as a walk has to give it
  same_task : (grid : G) (each : List ℕ) (elements : Box) (first at : List ℕ) → ArePlanned dimensions grid each elements first at walk
      → (group : List ℕ) (task : Task) → IsTask (dimensions grid) each elements first at group task → IsTaskOf group task
  same_task grid each elements first at planned group task is =
      let about = planned.about in rw (about.same_grid, about.same_each, about.same_elements, about.same_first, about.same_at) is

  tasks_only : (groups : List (List ℕ)) (plans : List TaskPlan) → AllZip (IsPlanOf dimensions is_key source target walk) groups plans
      → AllZip IsTaskOf groups (map (λ (plan : TaskPlan). plan.0) plans)
  tasks_only [] [] are = tt
  tasks_only (group ∷ groups) (plan ∷ plans) are = (are.0.0, tasks_only groups plans are.1)
  tasks_only [] (_ ∷ _) are = absurd are
  tasks_only (_ ∷ _) [] are = absurd are

  all_have_parts : (groups : List (List ℕ)) (plans : List TaskPlan) → AllZip (IsPlanOf dimensions is_key source target walk) groups plans
      → AllByRecursion (HasPartsOf dimensions is_key source target) plans
  all_have_parts [] [] are = tt
  all_have_parts (group ∷ groups) (plan ∷ plans) are = (are.0.1, all_have_parts groups plans are.1)
  all_have_parts [] (_ ∷ _) are = absurd are
  all_have_parts (_ ∷ _) [] are = absurd are

  -- what a walk gives from its beginning on are all tasks, each with its parts
  pub all_plans : (grid : G) (each : List ℕ) (elements : Box) (first at : List ℕ) → ArePlanned dimensions grid each elements first at walk
      → (plans : List TaskPlan) → PlansToCome dimensions is_key source target walk plans
      → AreTasks (dimensions grid) each elements first at (map (λ (plan : TaskPlan). plan.0) plans) × AllByRecursion (HasPartsOf dimensions is_key source target) plans
  all_plans grid each elements first at planned plans are = (
    tasks_of dimensions grid each elements first at walk (map (λ (plan : TaskPlan). plan.0) plans) planned (tasks_only (groups_to_come walk) plans are),
    all_have_parts (groups_to_come walk) plans are,
  )

  -- a group has a task, if one is known for each group of such tasks
  all_have : (grid : G) (each : List ℕ) (elements : Box) (first at : List ℕ) → ArePlanned dimensions grid each elements first at walk
      → ((group : List ℕ) → HoldsSomeOf (dimensions grid) each elements group
      → (plan : TaskPlan) × IsTask (dimensions grid) each elements first at group plan.0 × HasPartsOf dimensions is_key source target plan)
      → HavePlans dimensions is_key source target walk (groups_to_come walk)
  all_have grid each elements first at planned plan_of =
      each_follows (HoldsSomeOf (dimensions walk.grid.now) (map non_zero_u64_get walk.each.now) walk.elements)
      (λ group. (plan : TaskPlan) × IsPlanOf dimensions is_key source target walk group plan) one (groups_to_come walk) planned.can.hold
    where
      one : (group : List ℕ) → HoldsSomeOf (dimensions walk.grid.now) (map non_zero_u64_get walk.each.now) walk.elements group
          → (plan : TaskPlan) × IsPlanOf dimensions is_key source target walk group plan
      one group holds =
          let about = planned.about in
          let (plan, is, have) = plan_of group (rw (about.same_grid, about.same_each, about.same_elements) at holds) in
          (plan, (same_task grid each elements first at planned group plan.0 is, have))

  module _ (chains : (grid : G) → AllByRecursion IsChain (dimensions grid)) (keys : (encoding : E) → HasKeys (is_key encoding))
      (source_fit : AllFit (array_sizes (dimensions source.grid))) (target_fit : AllFit (array_sizes (dimensions target.grid))) (region : Box)
      (at : List ℕ) (each : List NonZeroU64)
      (has : HasTasks (array_sizes (dimensions source.grid)) (array_sizes (dimensions target.grid)) region at (map non_zero_u64_get each)) where
    -- so a walk over the tasks of a copy gives them, by groups of the chunks of either array
    pub gives_plans : (order : Order) → ArePlannedBy order dimensions source.grid target.grid (map non_zero_u64_get each) region at walk
        → GivesPlans dimensions is_key source target walk order region at (map non_zero_u64_get each)
    gives_plans Target planned = record {
      can = planned.can;
      all = planned.all ∙ sym planned.left;
      have = all_have _ _ _ _ _ planned
          (plan_by_target (dimensions source.grid) (dimensions target.grid) (is_key source.encoding) (is_key target.encoding) (chains source.grid)
          (chains target.grid) (keys source.encoding) (keys target.encoding) source_fit target_fit region at each has);
      are_tasks = λ plans come. (all_plans _ _ _ _ _ planned plans come).0;
      have_parts = λ plans come. (all_plans _ _ _ _ _ planned plans come).1;
    }
    gives_plans Source planned = record {
      can = planned.can;
      all = planned.all ∙ sym planned.left;
      have = all_have _ _ _ _ _ planned
          (plan_by_source (dimensions source.grid) (dimensions target.grid) (is_key source.encoding) (is_key target.encoding) (chains source.grid)
          (chains target.grid) (keys source.encoding) (keys target.encoding) source_fit target_fit region at each has);
      are_tasks = λ plans come. (all_plans _ _ _ _ _ planned plans come).0;
      have_parts = λ plans come. (all_plans _ _ _ _ _ planned plans come).1;
    }
