-- The answers to `tasks` and `task_counts`: the tasks of a copy, and how much they read and write.
-- Sources: Zarr V3 core, chunk grids and chunk key encodings; tasks and the forms are this library's own.
use Rattle.std.specs.Prelude.{◌≡◌, ℕ, ◌+◌, Bool, true, false, IfSome, List, [], ◌∷◌, length, map, replicate, codes, unwrap_or, Option, Some, None}
use Rattle.std.specs.List.{AllByRecursion}
use Rattle.serde_json.specs.Data.{Data, Members, array, boolean, member, no_members, object, string}
use Rattle.serde_json.specs.View.{items_of}
use Rattle.zarrs_chunk_base.specs.ArraySubset.{Box, IsBox, IsEmptyBox}
use Rattle.zarrs_chunk_base.specs.Dimension.{Dimension, array_sizes}
use Rattle.zarrs_chunk_base.specs.Grid.{Grid}
use Rattle.zarrs_chunk_base.specs.Json.{size_tree}
use Rattle.zarrs_chunk_keys.specs.ChunkKey.{Encoding, IsKey}
use Rattle.zarrs_chunk_keys.specs.KeyKinds.{IsEncodingIn}
use Rattle.zarrs_chunks.specs.GridKinds.{GridKind, IsGridIn}
use Rattle.zarrs_chunk_parts.specs.declared.part.Part.{Part}
use Rattle.zarrs_chunk_plan.specs.Counted.{counted}
use Rattle.zarrs_chunk_plan.specs.ArrayBoxes.{array_box}
use Rattle.zarrs_chunk_plan.specs.Shares.{before_share}
use Rattle.zarrs_chunk_tasks.specs.Counts.{AreNone, AreTaskCounts, in_all}
use Rattle.zarrs_chunk_tasks.specs.Tasks.{AreTasksBy, HasParts, HasTasks, TaskPlan}
use Rattle.zarrs_chunk_tasks.specs.declared.counts.CountsAlong.{CountsAlong}
use Rattle.zarrs_chunk_tasks.specs.declared.order.Order.{Order}
use Rattle.zarrs_chunk_tasks.specs.declared.task.Task.{Task}
use Rattle.zarrs_chunk_questions.specs.Pages.{count_of, first_of, is_more, page_tree, some_from}
use Rattle.zarrs_chunk_questions.specs.Question.{CopyAsked, Items, Lists, ShareAsked}
use Rattle.zarrs_chunk_questions.specs.Trees.{box_of, box_tree, numbers_tree, or_null}

-- ---- a copy

-- A copy by tasks: a region of one array goes to another array, from `at` on. Each task takes these numbers of neighbouring chunks of one of the two.
pub record Copy : Type 0 where
  pub source : Grid × Encoding
  pub target : Grid × Encoding
  pub region : Box
  pub at : List ℕ
  pub order : Order
  pub each : List ℕ

module _ (copy : Copy) where
  abbrev pub source_dimensions : List Dimension
  source_dimensions = copy.source.0.dimensions

  abbrev pub target_dimensions : List Dimension
  target_dimensions = copy.target.0.dimensions

  -- these are its tasks
  abbrev pub AreTasksOf : List Task → Type 0
  AreTasksOf = AreTasksBy copy.order source_dimensions target_dimensions copy.each copy.region copy.at

  -- it has tasks
  abbrev pub HasTasksOf : Type 0
  HasTasksOf = HasTasks (array_sizes source_dimensions) (array_sizes target_dimensions) copy.region copy.at copy.each

  -- the parts of a task
  abbrev pub HasPartsOf : TaskPlan → Type 0
  HasPartsOf = HasParts source_dimensions target_dimensions (IsKey copy.source.1) (IsKey copy.target.1)

-- the box that is copied: the box of all elements if the question gives no box
abbrev pub region_of : Option Lists → List Dimension → Box
region_of (Some lists) ds = box_of lists
region_of None ds = array_box ds

-- The copy that is asked for, of an array of this shape with this grid. The other grid and the encodings are made of the trees that the question gives.
-- If the question doesn't give them, the target's shape is the array's and the region is the box of all elements. Then `at` is 0 in each dimension, and
-- a task takes one chunk along each.
pub record IsCopyAsked (shape : List ℕ) (encoding : Data) (asked : CopyAsked) (grid : Grid) (copy : Copy) : Type 0 where
  pub same_grid : copy.source.0 ≡ grid
  pub is_encoding : IsEncodingIn encoding copy.source.1
  pub target_kind : GridKind
  pub is_target_grid : IsGridIn asked.target.chunk_grid (unwrap_or asked.target.shape shape) target_kind copy.target.0
  pub is_target_encoding : IsEncodingIn asked.target.chunk_key_encoding copy.target.1
  pub is_box : IfSome asked.subset (λ lists. IsBox (box_of lists))
  pub region : copy.region ≡ region_of asked.subset grid.dimensions
  pub at : copy.at ≡ unwrap_or asked.at (replicate (length copy.region.start) 0)
  pub order : copy.order ≡ asked.order
  pub each : copy.each ≡ unwrap_or asked.task_chunks (replicate (length grid.dimensions) 1)

-- ---- the tasks

-- A part that is written says whether the task writes all that the chunk has of the array. A part that is read doesn't say it.
abbrev pub whole_if : (written : Bool) → Part → Members
whole_if true part = member (codes "whole") (boolean part.whole) no_members
whole_if false part = no_members

-- what a chunk and the buffer of a task share: the chunk, the box in the buffer, the box in the chunk, and the chunk's key and shape
abbrev pub overlap_members : Part → (more : Members) → Members
overlap_members part more =
    member (codes "chunk") (numbers_tree part.chunk.items)
    (member (codes "in_buffer") (box_tree part.in_selection)
    (member (codes "in_chunk") (box_tree part.in_chunk)
    (member (codes "key") (string part.key)
    (member (codes "shape") (numbers_tree part.shape.items) more))))

abbrev pub overlap_tree : (written : Bool) → Part → Data
overlap_tree written part = object (overlap_members part (whole_if written part))

-- a task: the shape of its buffer, what is read into it, and what is written from it
abbrev pub task_tree : TaskPlan → Data
task_tree plan =
    object (member (codes "buffer") (numbers_tree plan.0.source.shape)
    (member (codes "from") (array (items_of (map (overlap_tree false) plan.1.0)))
    (member (codes "to") (array (items_of (map (overlap_tree true) plan.1.1))) no_members)))

-- up to `most` of the tasks, from the one with the number `first` on, each with its parts
pub record IsTasksAnswer (copy : Copy) (first most : ℕ) (t : Data) : Type 0 where
  pub has : HasTasksOf copy
  pub tasks : List Task
  pub are_tasks : AreTasksOf copy tasks
  pub plans : List TaskPlan
  pub are_some : map (λ (plan : TaskPlan). plan.0) plans ≡ some_from first most tasks
  pub have_parts : AllByRecursion (HasPartsOf copy) plans
  pub tree : t ≡ page_tree (map task_tree plans) (is_more first (length plans) (count_of tasks))

-- ---- their counts

-- a number, and null where it is past the greatest number
abbrev pub number_tree : ℕ → Data
number_tree number = or_null size_tree (counted number)

-- a count, as a list of the numbers along each dimension, of which it is the product
abbrev pub count_tree : (CountsAlong → ℕ) → List CountsAlong → Data
count_tree count along = array (items_of (map (λ counts. number_tree (count counts)) along))

-- a share of the tasks: the number of the first one, and of the first one after them
abbrev pub share_tree : ShareAsked → (tasks : ℕ) → Data
share_tree (number, of) tasks =
    array (items_of (number_tree (before_share number of tasks) ∷ number_tree (before_share (number + 1) of tasks) ∷ []))

abbrev pub counts_tree : ShareAsked → Box → List CountsAlong → Data
counts_tree share region along =
    object (member (codes "chunks_read") (count_tree (λ counts. counts.chunks_read) along)
    (member (codes "chunks_written") (count_tree (λ counts. counts.chunks_written) along)
    (member (codes "elements_decoded") (count_tree (λ counts. counts.elements_decoded) along)
    (member (codes "elements_moved") (numbers_tree region.shape)
    (member (codes "largest_task") (count_tree (λ counts. counts.largest_task) along)
    (member (codes "share") (share_tree share (in_all (λ counts. counts.tasks) along))
    (member (codes "tasks") (count_tree (λ counts. counts.tasks) along) no_members)))))))

-- The counts of the tasks, each by one number a dimension, of which it is the product. If the region is empty, each of these numbers is 0.
-- `elements_moved` is the region's shape.
pub record IsCountsAnswer (copy : Copy) (share : ShareAsked) (t : Data) : Type 0 where
  pub has : HasTasksOf copy
  pub counts : List CountsAlong
  pub are_counts : (tasks : List Task) → AreTasksOf copy tasks → AreTaskCounts (source_dimensions copy) (target_dimensions copy) tasks counts
  pub long : length counts ≡ length (source_dimensions copy)
  pub none : IsEmptyBox copy.region → AllByRecursion AreNone counts
  pub tree : t ≡ counts_tree share copy.region counts

-- ---- of a question

-- what is answered of the copy that is asked for
abbrev pub IsCopyAnswer : (Copy → Data → Type 0) → (shape : List ℕ) → Data → CopyAsked → Grid → Data → Type 0
IsCopyAnswer Answers shape encoding asked grid t = (copy : Copy) × IsCopyAsked shape encoding asked grid copy × Answers copy t

-- the answer to `tasks`
abbrev pub IsSomeTasksAnswer : (shape : List ℕ) → Data → CopyAsked → Items → Grid → Data → Type 0
IsSomeTasksAnswer shape encoding asked items = IsCopyAnswer (λ copy. IsTasksAnswer copy (first_of items) items.most) shape encoding asked

-- the answer to `task_counts`
abbrev pub IsTaskCountsAnswer : (shape : List ℕ) → Data → CopyAsked → ShareAsked → Grid → Data → Type 0
IsTaskCountsAnswer shape encoding asked share = IsCopyAnswer (λ copy. IsCountsAnswer copy share) shape encoding asked
