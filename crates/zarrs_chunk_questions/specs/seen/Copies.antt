-- What values say of a copy that a question is about, and of walks over its tasks and their parts.
use Rattle.std.specs.Prelude.{◌⊎◌, ℕ, ◌+◌, List, [], ◌∷◌, length, map}
use Rattle.std.specs.Int.NonZero.{non_zero_u64_get}
use Rattle.serde_json.specs.Data.{Data}
use Rattle.zarrs_chunk_base.specs.Dimension.{Dimension}
use Rattle.zarrs_chunk_keys.specs.ChunkKey.{IsKey}
use Rattle.zarrs_chunk_keys.specs.KeyKinds.{IsEncodingIn}
use Rattle.zarrs_chunk_keys.specs.seen.Encodings.{encoding_in}
use Rattle.zarrs_chunk_keys.specs.declared.chunk_key_encoding.named.ChunkKeyEncoding.{ChunkKeyEncoding}
use Rattle.zarrs_chunks.specs.GridKinds.{IsGridIn}
use Rattle.zarrs_chunks.specs.seen.Grids.{grid_in, kind_in}
use Rattle.zarrs_chunks.specs.declared.chunk_grid.named.ChunkGrid.{ChunkGrid}
use Rattle.zarrs_chunk_parts.specs.declared.part.Part.{Part}
use Rattle.zarrs_chunk_plan.specs.declared.read.walk.Parts.{Parts}
use Rattle.zarrs_chunk_plan.specs.declared.stored_array.StoredArray.{StoredArray}
use Rattle.zarrs_chunk_plan.specs.seen.Parts.{ArePartsToCome, MeetSubset}
use Rattle.zarrs_chunk_tasks.specs.Tasks.{TaskPlan}
use Rattle.zarrs_chunk_tasks.specs.declared.walk.Tasks.{Tasks}
use Rattle.zarrs_chunk_tasks.specs.seen.PlannedTasks as planned
use Rattle.zarrs_chunk_questions.specs.Refused.{IsNoEncoding, IsNoGrid, IsOfTarget}
use Rattle.zarrs_chunk_questions.specs.Tasks.{Copy}
use Rattle.zarrs_chunk_questions.specs.declared.copying.Copying.{Copying}
use Rattle.zarrs_chunk_questions.specs.declared.line_fault.LineFault.{LineFault}

abbrev pub OpenedArray : Type 0
OpenedArray = StoredArray ChunkGrid ChunkKeyEncoding

-- an array as it is stored: its grid and its encoding are made of these trees, of an array of this shape
abbrev pub IsStoredIn : (chunk_grid encoding : Data) → (shape : List ℕ) → OpenedArray → Type 0
IsStoredIn chunk_grid encoding shape made =
    IsGridIn chunk_grid shape (kind_in made.grid) (grid_in made.grid) × IsEncodingIn encoding (encoding_in made.encoding)

-- why there is no such array: the grid can't be made; or the encoding
abbrev pub IsNoStored : (chunk_grid encoding : Data) → (shape : List ℕ) → LineFault → Type 0
IsNoStored chunk_grid encoding shape fault =
    IsOfTarget (IsNoGrid chunk_grid shape) fault
    ⊎ ((made : ChunkGrid) × IsGridIn chunk_grid shape (kind_in made) (grid_in made) × IsOfTarget (IsNoEncoding encoding) fault)

abbrev pub copy_of : Copying → Copy
copy_of copying = record {
  source = (grid_in copying.source.grid, encoding_in copying.source.encoding);
  target = (grid_in copying.target.grid, encoding_in copying.target.encoding);
  region = copying.region;
  at = copying.at.items;
  order = copying.order;
  each = map non_zero_u64_get copying.task_chunks.items;
}

-- the dimensions of a grid, and which bytes are a key in an encoding
abbrev pub dimensions_in : ChunkGrid → List Dimension
dimensions_in grid = (grid_in grid).dimensions

abbrev pub key_in : ChunkKeyEncoding → List ℕ → List ℕ → Type 0
key_in encoding = IsKey (encoding_in encoding)

-- what a walk over parts has still to give, and that it can
abbrev pub PartsToCome : Parts ChunkGrid ChunkKeyEncoding → List Part → Type 0
PartsToCome = ArePartsToCome dimensions_in key_in

abbrev pub CanGiveParts : Parts ChunkGrid ChunkKeyEncoding → Type 0
CanGiveParts = MeetSubset dimensions_in

-- the parts of a task between two arrays; the task of a group with them; and that a walk has it for each group
abbrev pub HasPartsBetween : (source target : OpenedArray) → TaskPlan → Type 0
HasPartsBetween = planned.HasPartsOf dimensions_in key_in

abbrev pub IsPlanOf : (source target : OpenedArray) → Tasks ChunkGrid → (group : List ℕ) → TaskPlan → Type 0
IsPlanOf = planned.IsPlanOf dimensions_in key_in

abbrev pub HavePlans : (source target : OpenedArray) → Tasks ChunkGrid → List (List ℕ) → Type 0
HavePlans = planned.HavePlans dimensions_in key_in

-- a walk at its beginning: what it has to give are the tasks of the copy, with their parts
abbrev pub GivesTasksOf : Copying → Tasks ChunkGrid → Type 0
GivesTasksOf copying walk =
    planned.GivesPlans dimensions_in key_in copying.source copying.target walk copying.order copying.region copying.at.items (copy_of copying).each

-- how many parts a task has, and how many tasks have together
abbrev pub parts_of : TaskPlan → ℕ
parts_of plan = length plan.1.0 + length plan.1.1

abbrev pub parts_in : List TaskPlan → ℕ
parts_in [] = 0
parts_in (plan ∷ plans) = parts_of plan + parts_in plans
