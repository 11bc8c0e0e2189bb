-- The tasks that a walk has to give, each with its parts.
use Rattle.std.specs.Prelude.{◌≡◌}
use Rattle.programs.specs.chunkplan.Common.{ℕ, List, TaskPlan}
use Rattle.zarrs_chunk_questions.specs.seen.Copies as copies
use Rattle.zarrs_chunk_tasks.specs.declared.walk.Tasks.{Tasks}
use Rattle.zarrs_chunk_tasks.specs.seen.PlannedTasks as planned
use Rattle.zarrs_chunk_tasks.specs.seen.Tasks.{CanGive, all_groups, groups_to_come}
use Rattle.zarrs_chunks.specs.declared.chunk_grid.named.ChunkGrid.{ChunkGrid}
use Rattle.programs.specs.chunkplan.Stages.{AreStagePlans, HasStageTasks}
use Rattle.programs.specs.chunkplan.seen.Opened.{dimensions_in, key_in}
use Rattle.programs.specs.chunkplan.seen.Routes.{stage_of}
use Rattle.programs.specs.declared.chunkplan.route.Stage.{Stage as StageValue}

-- the parts of a task from one array to the other
abbrev pub HasPartsOf : (source target : copies.OpenedArray) → TaskPlan → Type 0
HasPartsOf = copies.HasPartsBetween

-- what a walk has to give, with the parts; and that there is that
abbrev pub PlansToCome : (source target : copies.OpenedArray) → Tasks ChunkGrid → List TaskPlan → Type 0
PlansToCome = planned.PlansToCome dimensions_in key_in

abbrev pub HavePlans : (source target : copies.OpenedArray) → Tasks ChunkGrid → List (List ℕ) → Type 0
HavePlans = copies.HavePlans

-- a walk over the tasks of a stage, at its beginning: what it has to give are the tasks of the stage with their parts
pub record HasPlansOf (stage : StageValue) (walk : Tasks ChunkGrid) : Type 0 where
  pub has : HasStageTasks (stage_of stage)
  pub can : CanGive dimensions_in walk
  pub all : all_groups walk ≡ groups_to_come walk
  pub have : HavePlans stage.source.now stage.target.now walk (groups_to_come walk)
  pub are : (plans : List TaskPlan) → PlansToCome stage.source.now stage.target.now walk plans → AreStagePlans (stage_of stage) plans
