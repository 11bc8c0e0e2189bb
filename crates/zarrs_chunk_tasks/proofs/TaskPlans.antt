-- The task of each group has its parts, and writes where the region goes.
use Rattle.std.proofs.Common.{◌∙◌, ℕ, Contains, List, refl, subst, sym}
use Rattle.std.proofs.lemmas.List.{length-map}
use Rattle.std.specs.Int.NonZero.{non_zero_u64_get}
use Rattle.std.specs.List.{AllByRecursion}
use Rattle.std.specs.declared.num.NonZeroU64.{NonZeroU64}
use Rattle.zarrs_chunk_base.specs.ArraySubset.{AreWithin, Box, IsInside}
use Rattle.zarrs_chunk_base.specs.Dimension.{Dimension, IsChain, array_sizes}
use Rattle.zarrs_chunk_base.specs.Greatest.{AllFit}
use Rattle.zarrs_chunk_axes.specs.InBounds.{AreBelow}
use Rattle.zarrs_chunks.specs.Walks.{chunks_in, counted_from}
use Rattle.zarrs_chunks.proofs.ChunksInBoxes.{are_those_inside, lie_within, offset_of}
use Rattle.zarrs_chunk_parts.specs.declared.part.Part.{Part}
use Rattle.zarrs_chunk_plan.specs.Region.{LiesIn, moved}
use Rattle.zarrs_chunk_plan.specs.seen.Parts.{HasKeys}
use Rattle.zarrs_chunk_plan.proofs.MovedBoxes.{box_within, within_below}
use Rattle.zarrs_chunk_plan.proofs.Plans.{pair_of}
use Rattle.zarrs_chunk_plan.proofs.SomePlan.{has_plan}
use Rattle.zarrs_chunk_tasks.specs.Groups.{HoldsSomeOf}
use Rattle.zarrs_chunk_tasks.specs.Tasks.{AreTasksBySource, AreTasksByTarget, AreTheCopy, HasParts, HasTasks, IsTask, Moves, TaskPlan}
use Rattle.zarrs_chunk_tasks.specs.declared.task.Task.{Task}
use Rattle.zarrs_chunk_tasks.proofs.GroupBoxes.{numbers}
use Rattle.zarrs_chunk_tasks.proofs.SomeTasks.{has_tasks}
use Rattle.zarrs_chunk_tasks.proofs.TaskLaws.{at_sizes, at_starts, chunks_of_source, chunks_of_target, copy_by_source, copy_by_target, lies_by_source, lies_by_target}

module _ (source target : List Dimension) (IsSourceKey IsTargetKey : List ℕ → List ℕ → Type 0) (source_chains : AllByRecursion IsChain source)
    (target_chains : AllByRecursion IsChain target) (source_keys : HasKeys IsSourceKey) (target_keys : HasKeys IsTargetKey)
    (source_fit : AllFit (array_sizes source)) (target_fit : AllFit (array_sizes target)) (region : Box) (at : List ℕ) (each : List NonZeroU64)
    (has : HasTasks (array_sizes source) (array_sizes target) region at (numbers each)) where
  -- a box that lies in an array has a plan
  abbrev Plan : Task → Type 0
  Plan task = (parts : List Part × List Part) × HasParts source target IsSourceKey IsTargetKey (task, parts)

  has_parts : (task : Task) → LiesIn task.source (array_sizes source) → LiesIn task.target (array_sizes target) → Plan task
  has_parts task lies also =
      let is_source = box_within task.source.start task.source.shape (array_sizes source) source_fit lies in
      let is_target = box_within task.target.start task.target.shape (array_sizes target) target_fit also in
      let (from, reads) = has_plan source IsSourceKey source_chains source_keys task.source is_source
      (λ index inside. within_below task.source.start task.source.shape (array_sizes source) index lies inside)
      in
      let (into, writes) = has_plan target IsTargetKey target_chains target_keys task.target is_target
      (λ index inside. within_below task.target.start task.target.shape (array_sizes target) index also inside)
      in
      ((from, into), record { reads = reads; writes = writes })

  pub plan_by_target : (group : List ℕ) → HoldsSomeOf target (numbers each) (moved at region) group
      → (plan : TaskPlan) × IsTask target (numbers each) (moved at region) region.start at group plan.0 × HasParts source target IsSourceKey IsTargetKey plan
  plan_by_target group holds =
      let many = sym (length-map each non_zero_u64_get) ∙ chunks_of_target source target region at (numbers each) has in
      let is_box = box_within at region.shape (array_sizes target) target_fit has.can.in_target in
      let (tasks, are) = has_tasks target each (moved at region) region.start at target_chains is_box has.can.in_target many in
      let among = (are_those_inside are.groups are.is_box group).1 ((are.named group).1 holds) in
      let (task, in_tasks, is) = pair_of (IsTask target (numbers each) (moved at region) region.start at) (chunks_in are.groups) tasks are.are_tasks group among in
      let (lies, also) = lies_by_target source target region at (numbers each) has tasks are task in_tasks in
      let (parts, have) = has_parts task lies also in
      ((task, parts), is, have)

  pub plan_by_source : (group : List ℕ) → HoldsSomeOf source (numbers each) region group
      → (plan : TaskPlan) × IsTask source (numbers each) region region.start at group plan.0 × HasParts source target IsSourceKey IsTargetKey plan
  plan_by_source group holds =
      let many = sym (length-map each non_zero_u64_get) ∙ chunks_of_source source target region at (numbers each) has in
      let is_box = box_within region.start region.shape (array_sizes source) source_fit has.can.in_source in
      let (tasks, are) = has_tasks source each region region.start at source_chains is_box has.can.in_source many in
      let among = (are_those_inside are.groups are.is_box group).1 ((are.named group).1 holds) in
      let (task, in_tasks, is) = pair_of (IsTask source (numbers each) region region.start at) (chunks_in are.groups) tasks are.are_tasks group among in
      let (lies, also) = lies_by_source source target region at (numbers each) has tasks are task in_tasks in
      let (parts, have) = has_parts task lies also in
      ((task, parts), is, have)

-- ---- a task writes where the region goes

module _ (source target : List Dimension) (region : Box) (at each : List ℕ) (has : HasTasks (array_sizes source) (array_sizes target) region at each)
    (tasks : List Task) where
  abbrev WriteInside : Type 0
  WriteInside = (task : Task) → Contains tasks task → (to : List ℕ) → IsInside task.target to → IsInside (moved at region) to

  goes_inside : AreTheCopy region at tasks → WriteInside
  goes_inside copy task among to inside =
      let (behind, below, is) = offset_of task.target.start task.target.shape to inside in
      let from = counted_from task.source.start behind in
      let moves : Moves task from to =
      record { behind = behind; below = subst (λ shape. AreBelow shape behind) (sym (copy.one_shape task among)) below; from = refl; into = sym is } in
      let goes = (copy.moved from to).1 (task, among, moves) in
      let long = at_starts source target region at each has tasks ∙ sym (at_sizes source target region at each has tasks) in
      subst (AreWithin at region.shape) (sym goes.into) (lie_within at region.shape goes.behind long goes.below)

  pub inside_by_target : AllByRecursion IsChain target → AreTasksByTarget target each region at tasks → WriteInside
  inside_by_target chains are = goes_inside (copy_by_target source target region at each has tasks chains are)

  pub inside_by_source : AllByRecursion IsChain source → AreTasksBySource source each region at tasks → WriteInside
  inside_by_source chains are = goes_inside (copy_by_source source target region at each has tasks chains are)
