-- A copy in stages: by way of intermediate arrays, each of which is cut into chunks of one shape.
-- Source: Zarr V3 core, regular grid; stages are this library's own, after the field's practice.
use Rattle.std.specs.Prelude.{◌≡◌, ℕ, ◌+◌, ◌≤◌, IsTrue, List, [], ◌∷◌, MatchOption, Option, Some, Vec, length, map, min, suc}
use Rattle.std.specs.Int.NonZero.{non_zero_u64_get}
use Rattle.std.specs.List.{AllByRecursion, sum}
use Rattle.std.specs.declared.alloc.Global.{Global}
use Rattle.std.specs.declared.num.NonZeroU64.{NonZeroU64}
use Rattle.zarrs_chunk_base.specs.ArraySubset.{Box, ends}
use Rattle.zarrs_chunk_base.specs.Dimension.{Dimension}
use Rattle.zarrs_chunk_axes.specs.EqualEdges.{AreEqualEdges}
use Rattle.zarrs_chunk_parts.specs.Plan.{Covers}
use Rattle.zarrs_chunk_plan.specs.Counts.{product}
use Rattle.zarrs_chunk_plan.specs.ArrayBoxes.{array_box}
use Rattle.zarrs_chunk_plan.specs.Region.{moved}
use Rattle.zarrs_chunk_tasks.specs.Cheapest.{AreTasksOf, FindsTasks, HoldAtMost, IsCost, IsExactIfFew, IsLargestOfBoth, IsOfNoTasks, OnesAreNoCheaper, most_choices, most_sizes}
use Rattle.zarrs_chunk_tasks.specs.Counts.{greatest_of_128}
use Rattle.zarrs_chunk_tasks.specs.Edges.{AreFewPieces, IsTriedShape}
use Rattle.zarrs_chunk_tasks.specs.declared.cheapest.CheapestTasks.{CheapestTasks}
use Rattle.zarrs_chunk_tasks.specs.declared.stages.CheapestStages.{CheapestStages}
use Rattle.zarrs_chunk_tasks.specs.declared.task.Task.{Task}

-- A region of the source's array is copied to the target's, from `at` on. `most` bounds the elements of a buffer and of a largest chunk together.
module _ (source target : List Dimension) (region : Box) (at : List ℕ) (most : ℕ) where
  -- the tasks by groups of these numbers of chunks, and they fit
  pub record Fit (each : List NonZeroU64) (tasks : List Task) : Type 0 where
    pub long : length each ≡ length source
    pub are_tasks : AreTasksOf source target region at each tasks
    pub hold : (largest : ℕ) → IsLargestOfBoth source target region at largest → HoldAtMost largest most tasks

  -- all tasks that fit cost this or more
  abbrev pub CostAtLeast : (read_elements cost : ℕ) → Type 0
  CostAtLeast read_elements cost =
      (each : List NonZeroU64) (tasks : List Task) → Fit each tasks → (its_cost : ℕ) × IsCost source read_elements tasks its_cost × (cost ≤ its_cost)

  -- no tasks fit
  abbrev pub NoneFit : Type 0
  NoneFit = (each : List NonZeroU64) (tasks : List Task) → ¬ Fit each tasks

-- The region is copied in two stages, by an intermediate array: from the source's array, and then to the target's.
module _ (source target : List Dimension) (region : Box) (at : List ℕ) (most : ℕ) (between : List Dimension) where
  -- the tasks of either stage, and they fit
  abbrev pub BothFit : (one other : List NonZeroU64) (first second : List Task) → Type 0
  BothFit one other first second =
      Fit source between region (array_box between).start most one first × Fit between target (array_box between) at most other second

  -- all tasks that fit cost this or more, both stages together
  abbrev pub BothCostAtLeast : (read_elements cost : ℕ) → Type 0
  BothCostAtLeast read_elements cost =
      (one other : List NonZeroU64) (first second : List Task) → BothFit one other first second
      → (a b : ℕ) × IsCost source read_elements first a × IsCost between read_elements second b × (cost ≤ a + b)

  -- no tasks of both stages fit
  abbrev pub NoneOfBothFit : Type 0
  NoneOfBothFit = (one other : List NonZeroU64) (first second : List Task) → ¬ BothFit one other first second

-- the tasks of a stage: they fit and cost what they say, and are exact if the chunks that they write are few
pub record IsStage (source target : List Dimension) (region : Box) (at : List ℕ) (most read_elements : ℕ) (tasks : CheapestTasks) : Type 0 where
  pub chosen : FindsTasks source target region at most read_elements (Some tasks)
  pub exact : IsExactIfFew target region at tasks

-- the elements go to the target's array, from `at` on
module _ (target : List Dimension) (at : List ℕ) (most read_elements : ℕ) where
  -- The tasks of stages that copy a region to the target's array by way of intermediate arrays, one after another. The chunks of each have one of the shapes.
  abbrev pub AreStages : (source : List Dimension) → (region : Box) → (chunks : List (List NonZeroU64)) → (stages : List CheapestTasks) → Type 0
  AreStages source region [] (last ∷ []) = IsStage source target region at most read_elements last
  AreStages source region (shape ∷ shapes) (stage ∷ stages) =
      (between : List Dimension) → AreEqualEdges between region.shape (map non_zero_u64_get shape)
      → IsStage source between region (array_box between).start most read_elements stage × AreStages between (array_box between) shapes stages
  AreStages _ _ _ _ = ⊥

-- a region of the source's array is copied to the target's, from `at` on
module _ (source target : List Dimension) (region : Box) (at : List ℕ) where
  -- what holds of the intermediate array in chunks of each shape that is tried
  abbrev pub OfEachTried : (List Dimension → Type 0) → Type 0
  OfEachTried P = (shape : List ℕ) → IsTriedShape source target region at shape → (between : List Dimension) → AreEqualEdges between region.shape shape → P between

-- `most` bounds the elements of a buffer and of a largest chunk together
module _ (source target : List Dimension) (region : Box) (at : List ℕ) (most : ℕ) where
  -- all tasks of one stage that fit cost this or more, and all of two stages by a shape that is tried
  pub record StagesCostAtLeast (read_elements cost : ℕ) : Type 0 where
    pub one : CostAtLeast source target region at most read_elements cost
    pub two : OfEachTried source target region at (λ between. BothCostAtLeast source target region at most between read_elements cost)

  -- no tasks of one stage fit, and none of two stages by a shape that is tried, if the pieces are few
  pub record NoStagesFit : Type 0 where
    pub one : NoneFit source target region at most
    pub two : AreFewPieces source target region at → OfEachTried source target region at (NoneOfBothFit source target region at most)

  -- The stages that are chosen. There is at most one intermediate array, in chunks of a shape that is tried, and one stage more than there are such arrays. The cost is the sum of the stages' costs, up to the
  -- greatest number. If tasks of one stage fit, the stages cost no more than one stage by tasks of one chunk each. If they are exact, nothing tried costs less.
  pub record AreChosenStages (read_elements : ℕ) (found : CheapestStages) : Type 0 where
    pub few : length found.chunks.items ≤ 1
    pub as_many : length found.tasks.items ≡ suc (length found.chunks.items)
    pub tried : AllByRecursion (λ (shape : Vec NonZeroU64 Global). IsTriedShape source target region at (map non_zero_u64_get shape.items)) found.chunks.items
    pub are : AreStages target at most read_elements source region (map (λ (shape : Vec NonZeroU64 Global). shape.items) found.chunks.items) found.tasks.items
    pub cost_is : found.cost ≡ min greatest_of_128 (sum (map (λ (stage : CheapestTasks). stage.cost) found.tasks.items))
    pub no_dearer : (each : List NonZeroU64) (tasks : List Task) → Fit source target region at most each tasks
        → OnesAreNoCheaper source target region at read_elements found.cost
    pub cheapest : IsTrue found.is_exact → StagesCostAtLeast read_elements found.cost

  -- Few chunks are at most 2^16 along each dimension, and 2^24 together. If the target's chunks up to the region's last one are few, no tasks of one stage
  -- that fit cost less. If the pieces are few, too, the stages are exact.
  pub record AreExactIfFew (read_elements : ℕ) (found : CheapestStages) : Type 0 where
    pub cover : Box
    pub is_cover : Covers target (moved at region) cover
    pub no_dearer : AllByRecursion (λ n. n ≤ most_sizes) (ends cover.start cover.shape) → product (ends cover.start cover.shape) ≤ most_choices
        → CostAtLeast source target region at most read_elements found.cost
    pub exact : AreFewPieces source target region at → AllByRecursion (λ n. n ≤ most_sizes) (ends cover.start cover.shape)
        → product (ends cover.start cover.shape) ≤ most_choices → IsTrue found.is_exact

  -- what is found of a region that isn't empty: stages, or none, if none fit
  abbrev pub FindsStages : (read_elements : ℕ) → Option CheapestStages → Type 0
  FindsStages read_elements found = MatchOption found NoStagesFit (AreChosenStages read_elements)

-- an empty region is copied in one stage, which costs nothing
pub record IsOfEmptyRegion (source : List Dimension) (found : CheapestStages) : Type 0 where
  pub no_chunks : found.chunks.items ≡ []
  pub one : (tasks : CheapestTasks) × (found.tasks.items ≡ tasks ∷ []) × IsOfNoTasks source tasks
  pub cost : found.cost ≡ 0
  pub is_exact : IsTrue found.is_exact
