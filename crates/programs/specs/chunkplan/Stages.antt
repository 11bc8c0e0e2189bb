-- The stages of a copy by tasks: one array after another, each written by tasks from the one before.
-- Source: this program's own; the tasks and their choice come from `zarrs_chunk_tasks`.
use Rattle.std.specs.Prelude.{◌≡◌, ◌≢◌, ◌⊎◌, ◌<◌, ◌∷◌}
use Rattle.programs.specs.chunkplan.Common.{ℕ, Bool, List, [], length, map, pred, replicate, slice_get, unwrap_or, AllByRecursion, Option, None, Some, Result, Ok, Err}
use Rattle.programs.specs.chunkplan.Common.{Contains, non_zero_u64_get, Box, IsEmptyBox, Dimension, array_sizes, IsKey, default_keys, grid_kind}
use Rattle.programs.specs.chunkplan.Common.{regular, array_box, IsRegionFault, RegionError, Order, Target, RunFault, NoSuchStage}
use Rattle.programs.specs.chunkplan.Common.{NoTasksFit, SeveralStages, TooManyToChoose, TooManyToCount, CopyTask, CountsAlong, TaskPlan, TasksError, moved}
use Rattle.std.specs.List.{AllZip}
use Rattle.zarrs_chunk_base.specs.Grid.{Grid}
use Rattle.zarrs_chunk_base.specs.declared.chunk_key_separator.ChunkKeySeparator.TheVariants.{Slash}
use Rattle.zarrs_chunk_keys.specs.ChunkKey.{Encoding}
use Rattle.zarrs_chunk_plan.specs.Region.{CanBeMoved}
use Rattle.zarrs_chunk_tasks.specs.Counts.{AreTaskCounts}
use Rattle.zarrs_chunk_tasks.specs.Few.{HaveMany, most_to_choose, most_to_count}
use Rattle.zarrs_chunk_tasks.specs.Stages.{AreExactIfFew, FindsStages, IsOfEmptyRegion}
use Rattle.zarrs_chunk_tasks.specs.Tasks.{AreTasksBy, HasParts, HasTasks, IsTasksFault}
use Rattle.zarrs_chunk_tasks.specs.declared.stages.CheapestStages.{CheapestStages}
use Rattle.programs.specs.chunkplan.Document.{TaskChoice, cheapest, given}
use Rattle.programs.specs.chunkplan.RunFault.{of_region, of_tasks}

-- One stage: a region of one array goes to another array, from `at` on. Each task takes these numbers of neighbouring chunks of the target, or of the
-- source. If the target is an intermediate array, the stage knows the shape of its chunks.
pub record Stage : Type 0 where
  pub source : Grid × Encoding
  pub target : Grid × Encoding
  pub region : Box
  pub at : List ℕ
  pub order : Order
  pub each : List ℕ
  pub intermediate : Option (List ℕ)

-- ---- the tasks of a stage

module _ (stage : Stage) where
  abbrev pub source_dimensions : List Dimension
  source_dimensions = stage.source.0.dimensions

  abbrev pub target_dimensions : List Dimension
  target_dimensions = stage.target.0.dimensions

  abbrev pub AreStageTasks : List CopyTask → Type 0
  AreStageTasks = AreTasksBy stage.order source_dimensions target_dimensions stage.each stage.region stage.at

  abbrev pub HasStageTasks : Type 0
  HasStageTasks = HasTasks (array_sizes source_dimensions) (array_sizes target_dimensions) stage.region stage.at stage.each

  -- why it has no tasks
  abbrev pub IsStageFault : RunFault → Type 0
  IsStageFault fault = (first : TasksError)
      × IsTasksFault (array_sizes source_dimensions) (array_sizes target_dimensions) stage.region stage.at stage.each first × (fault ≡ of_tasks first)

  -- its tasks, each with its parts
  pub record AreStagePlans (plans : List TaskPlan) : Type 0 where
    pub has : HasStageTasks
    pub are_tasks : AreStageTasks (map (λ (plan : TaskPlan). plan.0) plans)
    pub have_parts : AllByRecursion (HasParts source_dimensions target_dimensions (IsKey stage.source.1) (IsKey stage.target.1)) plans

  -- they, or why there are no tasks
  abbrev pub plans_in : Result (List TaskPlan) RunFault → Type 0
  plans_in (Ok plans) = AreStagePlans plans
  plans_in (Err fault) = IsStageFault fault

  -- the counts of its tasks
  pub record AreStageCounts (counts : List CountsAlong) : Type 0 where
    pub has : HasStageTasks
    pub are : (tasks : List CopyTask) → AreStageTasks tasks → AreTaskCounts source_dimensions target_dimensions tasks counts

-- ---- the stages of a copy

-- the keys of an intermediate array
abbrev pub intermediate_keys : Encoding
intermediate_keys = default_keys Slash

-- The stages by way of intermediate arrays, one after another, each with the shape of its chunks; `each` has the numbers of chunks of each stage.
abbrev pub staged : Order → (source target : Grid × Encoding) → (region : Box) → (at : List ℕ) → (between : List (Grid × List ℕ)) → (each : List (List ℕ))
    → List Stage
staged order source target region at [] (last ∷ _) =
    record { source = source; target = target; region = region; at = at; order = order; each = last; intermediate = None } ∷ []
staged order source target region at (next ∷ between) (first ∷ each) =
    record {
      source = source;
      target = (next.0, intermediate_keys);
      region = region;
      at = (array_box next.0.dimensions).start;
      order = order;
      each = first;
      intermediate = Some next.1;
    }
    ∷ staged order (next.0, intermediate_keys) target (array_box next.0.dimensions) at between each
staged order source target region at _ [] = []

-- an intermediate array has this shape, and chunks of a shape
abbrev pub IsIntermediate : (shape chunk : List ℕ) → Grid × List ℕ → Type 0
IsIntermediate shape chunk between = (between.1 ≡ chunk) × (grid_kind regular).makes between.0 shape chunk

-- the cheapest stages, also of a region without elements
pub record AreCheapest (source target : List Dimension) (region : Box) (at : List ℕ) (most read : ℕ) (found : CheapestStages) : Type 0 where
  pub lies : CanBeMoved (array_sizes source) (array_sizes target) region at
  pub some : (¬ IsEmptyBox region) → FindsStages source target region at most read (Some found)
  pub exact : (¬ IsEmptyBox region) → AreExactIfFew source target region at most read found
  pub none : IsEmptyBox region → IsOfEmptyRegion source found

-- no stages fit
pub record NoneFits (source target : List Dimension) (region : Box) (at : List ℕ) (most read : ℕ) : Type 0 where
  pub lies : CanBeMoved (array_sizes source) (array_sizes target) region at
  pub some : ¬ IsEmptyBox region
  pub finds : FindsStages source target region at most read None

-- stages, and whether they are exact, if they were chosen
abbrev pub Stages : Type 0
Stages = Option Bool × List Stage

-- the stages of a copy, or why it has none
abbrev pub stages_in : TaskChoice → (source target : Grid × Encoding) → (region : Box) → (at : List ℕ) → Result Stages RunFault → Type 0
stages_in (given order each) source target region at (Ok stages) =
    stages ≡ (None, staged order source target region at [] (unwrap_or each (replicate (length source.0.dimensions) 1) ∷ []))
stages_in (given order each) source target region at (Err fault) = ⊥
stages_in (cheapest most read asked) source target region at (Ok stages) =
    (found : CheapestStages) × AreCheapest source.0.dimensions target.0.dimensions region at most read found
    × (between : List (Grid × List ℕ))
    × AllZip (IsIntermediate region.shape) (map (λ chunk. map non_zero_u64_get chunk.items) found.chunks.items) between
    × (stages
    ≡ (Some found.is_exact, staged Target source target region at between (map (λ tasks. map non_zero_u64_get tasks.task_chunks.items) found.tasks.items)))
stages_in (cheapest most read asked) source target region at (Err fault) =
    ((fault ≡ NoTasksFit) × NoneFits source.0.dimensions target.0.dimensions region at most read)
    ⊎ (CanBeMoved (array_sizes source.0.dimensions) (array_sizes target.0.dimensions) region at × (fault ≡ TooManyToChoose)
    × HaveMany most_to_choose source.0.dimensions target.0.dimensions region (moved at region))
    ⊎ ((first : RegionError) × IsRegionFault (array_sizes source.0.dimensions) (array_sizes target.0.dimensions) region at first × (fault ≡ of_region first))

-- ---- what is asked for

-- the number of the stage whose lines are asked for
abbrev pub number_asked : TaskChoice → Option ℕ
number_asked (given order each) = None
number_asked (cheapest most read asked) = asked

-- the stage with this number, counted from 1, or the only one; or that there is no such stage, or several
abbrev pub asked_in : Option ℕ → List Stage → Result Stage RunFault → Type 0
asked_in None stages (Ok stage) = stages ≡ stage ∷ []
asked_in None stages (Err fault) = (length stages ≢ 1) × (fault ≡ SeveralStages)
asked_in (Some number) stages (Ok stage) = slice_get stages (pred number) ≡ Some stage
asked_in (Some number) stages (Err fault) = (length stages < number) × (fault ≡ NoSuchStage)

-- The first reason why the tasks of a stage aren't counted: it has none; or there are too many chunks.
abbrev pub IsCountFault : Stage → RunFault → Type 0
IsCountFault stage fault = IsStageFault stage fault
    ⊎ (HasStageTasks stage × (fault ≡ TooManyToCount)
    × HaveMany most_to_count (source_dimensions stage) (target_dimensions stage) stage.region (moved stage.at stage.region))

-- so of one of the stages
abbrev pub IsFaultOfSome : List Stage → RunFault → Type 0
IsFaultOfSome stages fault = (stage : Stage) × Contains stages stage × IsCountFault stage fault
