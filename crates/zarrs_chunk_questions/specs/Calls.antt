-- The calls that a question may name, one row a call.
-- Source: the names are those of zarrs, but for `locate`, `parts`, `tasks`, `task_counts`, `changed_chunks`, `byte_ranges`, `runs` and
-- `chunk_indices_counted`, which are this library's own.
use Rattle.std.specs.Prelude.{◌≡◌, ◌≢◌, ℕ, List, Option, Some, None, codes}
use Rattle.zarrs_chunk_questions.specs.declared.call.Call.{Call}
use Rattle.zarrs_chunk_questions.specs.declared.call.Call.TheVariants as call
use Rattle.zarrs_chunk_questions.specs.declared.call.OfArray.{OfArray}
use Rattle.zarrs_chunk_questions.specs.declared.call.OfArray.TheVariants as of_array
use Rattle.zarrs_chunk_questions.specs.declared.call.OfBox.{OfBox}
use Rattle.zarrs_chunk_questions.specs.declared.call.OfBox.TheVariants as of_box
use Rattle.zarrs_chunk_questions.specs.declared.call.OfGrid.{OfGrid}
use Rattle.zarrs_chunk_questions.specs.declared.call.OfGrid.TheVariants as of_grid
use Rattle.zarrs_chunk_questions.specs.declared.call.OfNumbers.{OfNumbers}
use Rattle.zarrs_chunk_questions.specs.declared.call.OfNumbers.TheVariants as of_numbers
use Rattle.zarrs_chunk_questions.specs.declared.call.WalkOf.{WalkOf}
use Rattle.zarrs_chunk_questions.specs.declared.call.WalkOf.TheVariants as walk_of

-- what a grid is asked alone
abbrev pub grid_call : OfGrid → List ℕ
grid_call of_grid.Dimensionality = codes "dimensionality"
grid_call of_grid.ArrayShape = codes "array_shape"
grid_call of_grid.GridShape = codes "grid_shape"
grid_call of_grid.Configuration = codes "configuration"
grid_call of_grid.Metadata = codes "metadata"

-- what it is asked of a list of numbers
abbrev pub numbers_call : OfNumbers → List ℕ
numbers_call of_numbers.ChunkShape = codes "chunk_shape"
numbers_call of_numbers.ChunkShapeNumbers = codes "chunk_shape_u64"
numbers_call of_numbers.ChunkOrigin = codes "chunk_origin"
numbers_call of_numbers.ChunkIndices = codes "chunk_indices"
numbers_call of_numbers.ChunkElementIndices = codes "chunk_element_indices"
numbers_call of_numbers.Subset = codes "subset"
numbers_call of_numbers.ChunkIndicesInbounds = codes "chunk_indices_inbounds"
numbers_call of_numbers.ArrayIndicesInbounds = codes "array_indices_inbounds"

-- what it is asked of a box
abbrev pub box_call : OfBox → List ℕ
box_call of_box.ChunksSubset = codes "chunks_subset"
box_call of_box.ChunksInArraySubset = codes "chunks_in_array_subset"

-- which walk is asked for
abbrev pub walk_call : WalkOf → List ℕ
walk_call walk_of.Chunks = codes "iter_chunk_indices"
walk_call walk_of.Boxes = codes "iter_chunk_subsets"
walk_call walk_of.ChunksAndBoxes = codes "iter_chunk_indices_and_subsets"

-- what is asked of an array
abbrev pub array_call : OfArray → List ℕ
array_call (of_array.OfGrid c) = grid_call c
array_call (of_array.OfNumbers c) = numbers_call c
array_call (of_array.OfBox c) = box_call c
array_call (of_array.OfWalk c) = walk_call c
array_call of_array.Runs = codes "runs"
array_call of_array.ChunkIndicesCounted = codes "chunk_indices_counted"
array_call of_array.Locate = codes "locate"
array_call of_array.Parts = codes "parts"
array_call of_array.Tasks = codes "tasks"
array_call of_array.TaskCounts = codes "task_counts"
array_call of_array.ChangedChunks = codes "changed_chunks"

-- the name of a call
abbrev pub name_of : Call → List ℕ
name_of (call.OfArray c) = array_call c
name_of call.Encode = codes "encode"
name_of call.Decode = codes "decode"
name_of call.ByteRanges = codes "byte_ranges"

-- the call that a text names, if it names one
abbrev pub IsNamed : Option (List ℕ) → Option Call → Type 0
IsNamed text (Some c) = text ≡ Some (name_of c)
IsNamed text None = (c : Call) → text ≢ Some (name_of c)
