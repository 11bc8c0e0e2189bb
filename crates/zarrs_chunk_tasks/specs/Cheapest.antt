-- The choice of tasks by what they cost, under a bound of memory.
-- Source: this library's own.
use Rattle.std.specs.Prelude.{◌≡◌, ℕ, ◌+◌, ◌*◌, ◌≤◌, IsTrue, List, MatchOption, Option, fold, length, map, max, min}
use Rattle.std.specs.Int.NonZero.{non_zero_u64_get}
use Rattle.std.specs.List.{AllByRecursion, AllZip, sum}
use Rattle.std.specs.declared.num.NonZeroU64.{NonZeroU64}
use Rattle.zarrs_chunk_base.specs.ArraySubset.{Box, ends}
use Rattle.zarrs_chunk_base.specs.Dimension.{Dimension, IsShape}
use Rattle.zarrs_chunks.specs.Walks.{chunks_in}
use Rattle.zarrs_chunk_parts.specs.Plan.{Covers}
use Rattle.zarrs_chunk_plan.specs.Counts.{product}
use Rattle.zarrs_chunk_plan.specs.Region.{moved}
use Rattle.zarrs_chunk_tasks.specs.Counts.{AreMet, greatest_of_128}
use Rattle.zarrs_chunk_tasks.specs.Tasks.{AreTasksByTarget}
use Rattle.zarrs_chunk_tasks.specs.declared.cheapest.CheapestTasks.{CheapestTasks}
use Rattle.zarrs_chunk_tasks.specs.declared.task.Task.{Task}

-- How many elements the largest chunk has, whole, of those that hold some of a box.
pub record IsLargestChunk (ds : List Dimension) (b : Box) (largest : ℕ) : Type 0 where
  pub cover : Box
  pub is_cover : Covers ds b cover
  pub shapes : List (List ℕ)
  pub are_shapes : AllZip (IsShape ds) (chunks_in cover) shapes
  pub largest_is : fold max 0 (map product shapes) ≡ largest

-- What tasks cost, in elements. A task costs the elements of the chunks that it reads, whole, and for each of these chunks what one read is worth.
pub record IsCost (source : List Dimension) (read_elements : ℕ) (tasks : List Task) (cost : ℕ) : Type 0 where
  pub reads : List (ℕ × ℕ)
  pub are_reads : AllZip (λ (task : Task). AreMet source task.source) tasks reads
  pub cost_is : sum (map (λ (read : ℕ × ℕ). read.0 * read_elements + read.1) reads) ≡ cost

-- each buffer has at most `most` elements, together with a chunk of `chunk` elements
abbrev pub HoldAtMost : (chunk most : ℕ) → List Task → Type 0
HoldAtMost chunk most = AllByRecursion (λ (task : Task). product task.source.shape + chunk ≤ most)

-- up to which number each number of chunks is tried along a dimension
abbrev pub most_sizes : ℕ
most_sizes = 65536

-- how many choices of one number for each dimension are compared at most
abbrev pub most_choices : ℕ
most_choices = 16777216

-- a region of the source's array is copied to the target's, from `at` on
module _ (source target : List Dimension) (region : Box) (at : List ℕ) where
  -- how many elements the largest chunk has that any task reads or writes, whole
  pub record IsLargestOfBoth (largest : ℕ) : Type 0 where
    pub read : ℕ
    pub is_read : IsLargestChunk source region read
    pub written : ℕ
    pub is_written : IsLargestChunk target (moved at region) written
    pub greater : max read written ≡ largest

  -- the tasks by groups that join these numbers of the target's chunks
  abbrev pub AreTasksOf : List NonZeroU64 → List Task → Type 0
  AreTasksOf each = AreTasksByTarget target (map non_zero_u64_get each) region at

  -- no tasks that fit cost less than `cost`
  abbrev pub NoneIsCheaper : (largest most read_elements cost : ℕ) → Type 0
  NoneIsCheaper largest most read_elements cost =
      (each : List NonZeroU64) → length each ≡ length source → (tasks : List Task) → AreTasksOf each tasks → HoldAtMost largest most tasks
      → (its_cost : ℕ) × IsCost source read_elements tasks its_cost × (cost ≤ its_cost)

  -- no tasks fit
  abbrev pub NoneFits : (largest most : ℕ) → Type 0
  NoneFits largest most =
      (each : List NonZeroU64) → length each ≡ length source → (tasks : List Task) → AreTasksOf each tasks → ¬ HoldAtMost largest most tasks

  -- tasks of one chunk each don't cost less than `cost`
  abbrev pub OnesAreNoCheaper : (read_elements cost : ℕ) → Type 0
  OnesAreNoCheaper read_elements cost =
      (ones : List NonZeroU64) → length ones ≡ length source → AllByRecursion (λ one. non_zero_u64_get one ≡ 1) ones → (tasks : List Task)
      → AreTasksOf ones tasks → (its_cost : ℕ) × IsCost source read_elements tasks its_cost × (cost ≤ its_cost)

  -- The chosen tasks fit, and cost what the choice says, up to the greatest number. They cost no more than tasks of one chunk each. If the choice is exact,
  -- no tasks that fit cost less.
  pub record IsChosen (largest most read_elements : ℕ) (chosen : CheapestTasks) : Type 0 where
    pub long : length chosen.task_chunks.items ≡ length source
    pub fits : (tasks : List Task) → AreTasksOf chosen.task_chunks.items tasks → HoldAtMost largest most tasks
    pub costs : (tasks : List Task) → AreTasksOf chosen.task_chunks.items tasks
        → (cost : ℕ) × IsCost source read_elements tasks cost × (chosen.cost ≡ min cost greatest_of_128)
    pub no_dearer : OnesAreNoCheaper read_elements chosen.cost
    pub cheapest : IsTrue chosen.is_exact → NoneIsCheaper largest most read_elements chosen.cost

  -- What is found of a region that isn't empty: the cheapest tasks, or none, if none fit.
  pub record FindsTasks (most read_elements : ℕ) (found : Option CheapestTasks) : Type 0 where
    pub largest : ℕ
    pub is_largest : IsLargestOfBoth largest
    pub choice : MatchOption found (NoneFits largest most) (IsChosen largest most read_elements)

-- The choice is exact if the target's chunks up to the region's last one are few: at most 2^16 along each dimension, and the product is at most 2^24.
pub record IsExactIfFew (target : List Dimension) (region : Box) (at : List ℕ) (chosen : CheapestTasks) : Type 0 where
  pub cover : Box
  pub is_cover : Covers target (moved at region) cover
  pub exact : AllByRecursion (λ n. n ≤ most_sizes) (ends cover.start cover.shape) → product (ends cover.start cover.shape) ≤ most_choices
      → IsTrue chosen.is_exact

-- the tasks of an empty region take one chunk each along each dimension, and cost nothing
pub record IsOfNoTasks (source : List Dimension) (chosen : CheapestTasks) : Type 0 where
  pub long : length chosen.task_chunks.items ≡ length source
  pub ones : AllByRecursion (λ one. non_zero_u64_get one ≡ 1) chosen.task_chunks.items
  pub cost : chosen.cost ≡ 0
  pub is_exact : IsTrue chosen.is_exact
