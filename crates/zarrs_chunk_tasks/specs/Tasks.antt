-- The tasks of a copy: each fills a buffer from the source's array, and writes it to the target's.
-- Source: Zarr V3 core, chunk grids; tasks are this library's own.
use Rattle.std.specs.Prelude.{◌≡◌, ◌≢◌, ◌↔◌, ◌⊎◌, ℕ, List, length}
use Rattle.std.specs.List.{AllPairs, AllZip, Contains}
use Rattle.zarrs_chunk_base.specs.ArraySubset.{Box, IsBox, IsInside}
use Rattle.zarrs_chunk_base.specs.Dimension.{Dimension}
use Rattle.zarrs_chunk_base.specs.Refusal.{TellsLengths}
use Rattle.zarrs_chunks.specs.Walks.{chunks_in, counted_from}
use Rattle.zarrs_chunk_parts.specs.Plan.{HasAllOf, HasElement, IsPlan, Meets}
use Rattle.zarrs_chunk_parts.specs.declared.part.Part.{Part}
use Rattle.zarrs_chunk_plan.specs.ArrayBoxes.{array_box}
use Rattle.zarrs_chunk_plan.specs.Region.{CanBeMoved, IsDestination, IsRegionFault, moved, shifted}
use Rattle.zarrs_chunk_tasks.specs.Groups.{HoldsSomeOf, IsBuffer}
use Rattle.zarrs_chunk_tasks.specs.declared.order.Order.{Order}
use Rattle.zarrs_chunk_tasks.specs.declared.order.Order.TheVariants.{Source, Target}
use Rattle.zarrs_chunk_tasks.specs.declared.task.Task.{Task}
use Rattle.zarrs_chunk_tasks.specs.declared.tasks_error.TasksError.{TasksError}
use Rattle.zarrs_chunk_tasks.specs.declared.tasks_error.TasksError.TheVariants.{Region, TaskChunks}

-- The chunks of one of the two arrays are grouped, and `elements` is the box of that array that is copied. In the source's array the copy begins at
-- `first`, in the target's at `at`.
module _ (ds : List Dimension) (each : List ℕ) (elements : Box) (first at : List ℕ) where
  -- The task of a group: its buffer is what the group holds of `elements`. `behind` is this box, counted from where `elements` begins. The task reads
  -- the box as far behind `first`, and writes the box as far behind `at`.
  pub record IsTask (group : List ℕ) (task : Task) : Type 0 where
    pub numbers : task.group.items ≡ group
    pub behind : Box
    pub is_box : IsBox behind
    pub buffer : IsBuffer ds each elements group (shifted elements.start behind)
    pub source : task.source ≡ shifted first behind
    pub target : task.target ≡ shifted at behind

  -- a task for each group that holds some of the elements, in row-major order of the groups
  pub record AreTasks (tasks : List Task) : Type 0 where
    pub groups : Box
    pub is_box : IsBox groups
    pub named : (group : List ℕ) → IsInside groups group ↔ HoldsSomeOf ds each elements group
    pub are_tasks : AllZip IsTask (chunks_in groups) tasks

-- the tasks of the copy of a region, by groups of the target's chunks, and by groups of the source's
abbrev pub AreTasksByTarget : (target : List Dimension) → (each : List ℕ) → (region : Box) → (at : List ℕ) → List Task → Type 0
AreTasksByTarget target each region at = AreTasks target each (moved at region) region.start at

abbrev pub AreTasksBySource : (source : List Dimension) → (each : List ℕ) → (region : Box) → (at : List ℕ) → List Task → Type 0
AreTasksBySource source each region at = AreTasks source each region region.start at

-- A rechunking is the copy of a whole array to another one of its shape, by groups of the target's chunks. Each element keeps its index.
abbrev pub AreTasksOfRechunking : (target : List Dimension) → (each : List ℕ) → List Task → Type 0
AreTasksOfRechunking target each = AreTasksByTarget target each (array_box target) (array_box target).start

-- by groups of the chunks of one of the two
abbrev pub AreTasksBy : Order → (source target : List Dimension) → (each : List ℕ) → (region : Box) → (at : List ℕ) → List Task → Type 0
AreTasksBy Target source target each region at = AreTasksByTarget target each region at
AreTasksBy Source source target each region at = AreTasksBySource source each region at

-- a task with the parts that it reads, and with the parts that it writes
abbrev pub TaskPlan : Type 0
TaskPlan = Task × (List Part × List Part)

-- The parts are the plans of the task's boxes: the plan of the one in the source's array is read, and the plan of the other one is written.
pub record HasParts (source target : List Dimension) (IsSourceKey IsTargetKey : List ℕ → List ℕ → Type 0) (plan : TaskPlan) : Type 0 where
  pub reads : IsPlan source IsSourceKey plan.0.source plan.1.0
  pub writes : IsPlan target IsTargetKey plan.0.target plan.1.1

-- the task moves the element at an index of the source's array to an index of the target's: both are as far after the first elements of its boxes
abbrev pub Moves : Task → (index to : List ℕ) → Type 0
Moves task = IsDestination task.source task.target.start

-- The tasks are the copy of a region: they move each element to where it goes, and nothing else. No two read one element, or write one. Both boxes of a
-- task have one shape.
pub record AreTheCopy (region : Box) (at : List ℕ) (tasks : List Task) : Type 0 where
  pub moved : (index to : List ℕ) → IsDestination region at index to ↔ ((task : Task) × Contains tasks task × Moves task index to)
  pub read_once : AllPairs (λ one other. (index to also : List ℕ) → Moves one index to → Moves other index also → ⊥) tasks
  pub one_shape : (task : Task) → Contains tasks task → task.source.shape ≡ task.target.shape
  pub written_once : AllPairs (λ one other. (to index also : List ℕ) → Moves one index to → Moves other also to → ⊥) tasks

-- the task of the copy the other way round: its boxes change places
abbrev pub exchanged : Task → Task
exchanged task = record { group = task.group; source = task.target; target = task.source }

-- One of two boxes has all elements of the array that a chunk holds. The other one has some element of the chunk.
abbrev pub HasAllAndSome : List Dimension → (b other : Box) → (chunk : List ℕ) → Type 0
HasAllAndSome ds b other chunk = (HasAllOf ds b chunk × Meets ds other chunk) ⊎ (Meets ds b chunk × HasAllOf ds other chunk)

-- an element goes by a task of the first stage to some index of the intermediate array, and from there by a task of the second one
abbrev pub GoesByBoth : (first second : List Task) → (index to : List ℕ) → Type 0
GoesByBoth first second index to = (between : List ℕ) × ((task : Task) × Contains first task × Moves task index between)
    × ((task : Task) × Contains second task × Moves task between to)

-- An element goes by way of a task's buffer: a part that the task reads has it, a part that it writes has it where it goes, and both have it at one place
-- of the buffer.
pub record GoesByBuffer (task : Task) (from into : List Part) (index to : List ℕ) : Type 0 where
  pub read : Part
  pub among_read : Contains from read
  pub place : List ℕ
  pub reads : HasElement task.source read index place
  pub write : Part
  pub among_written : Contains into write
  pub to_place : List ℕ
  pub writes : HasElement task.target write to to_place
  pub in_buffer : counted_from read.in_selection.start reads.steps ≡ counted_from write.in_selection.start writes.steps

-- The copy has tasks: there are as many numbers of chunks as dimensions, and the region lies in both arrays.
pub record HasTasks (source target : List ℕ) (region : Box) (at each : List ℕ) : Type 0 where
  pub lengths : length each ≡ length source
  pub can : CanBeMoved source target region at

-- The first fault: the list has another length than the source has dimensions; a fault of the region.
abbrev pub IsTasksFault : (source target : List ℕ) → Box → (at each : List ℕ) → TasksError → Type 0
IsTasksFault source target region at each (TaskChunks e) = (length each ≢ length source) × TellsLengths (length each) (length source) e
IsTasksFault source target region at each (Region e) = (length each ≡ length source) × IsRegionFault source target region at e
