use Rattle.std.proofs.Common.{◌≢◌}
use Rattle.zarrs_chunk_questions.specs.Calls.{name_of}
use Rattle.zarrs_chunk_questions.specs.declared.call.Call.{Call}
use Rattle.zarrs_chunk_questions.specs.declared.call.Call.TheVariants as call
use Rattle.zarrs_chunk_questions.specs.declared.call.OfArray.TheVariants as of_array
use Rattle.zarrs_chunk_questions.specs.declared.call.OfBox.TheVariants as of_box
use Rattle.zarrs_chunk_questions.specs.declared.call.OfGrid.TheVariants as of_grid
use Rattle.zarrs_chunk_questions.specs.declared.call.OfNumbers.TheVariants as of_numbers
use Rattle.zarrs_chunk_questions.specs.declared.call.WalkOf.TheVariants as walk_of
use Rattle.zarrs_chunk_questions.proofs.call.Call.named.Goals as goal

-- the name is that of no call
pub returns-in_default : goal.returns-in_default
returns-in_default c = of where
  of : (call : Call) → c.args.name.now ≢ name_of call
  of (call.OfArray (of_array.OfGrid of_grid.Dimensionality)) is = c.in_default.not-dimensionality is
  of (call.OfArray (of_array.OfGrid of_grid.ArrayShape)) is = c.in_default.not-array_shape is
  of (call.OfArray (of_array.OfGrid of_grid.GridShape)) is = c.in_default.not-grid_shape is
  of (call.OfArray (of_array.OfGrid of_grid.Configuration)) is = c.in_default.not-configuration is
  of (call.OfArray (of_array.OfGrid of_grid.Metadata)) is = c.in_default.not-metadata is
  of (call.OfArray (of_array.OfNumbers of_numbers.ChunkShape)) is = c.in_default.not-chunk_shape is
  of (call.OfArray (of_array.OfNumbers of_numbers.ChunkShapeNumbers)) is = c.in_default.not-chunk_shape_u64 is
  of (call.OfArray (of_array.OfNumbers of_numbers.ChunkOrigin)) is = c.in_default.not-chunk_origin is
  of (call.OfArray (of_array.OfNumbers of_numbers.ChunkIndices)) is = c.in_default.not-chunk_indices is
  of (call.OfArray (of_array.OfNumbers of_numbers.ChunkElementIndices)) is = c.in_default.not-chunk_element_indices is
  of (call.OfArray (of_array.OfNumbers of_numbers.Subset)) is = c.in_default.not-subset is
  of (call.OfArray (of_array.OfNumbers of_numbers.ChunkIndicesInbounds)) is = c.in_default.not-chunk_indices_inbounds is
  of (call.OfArray (of_array.OfNumbers of_numbers.ArrayIndicesInbounds)) is = c.in_default.not-array_indices_inbounds is
  of (call.OfArray (of_array.OfBox of_box.ChunksSubset)) is = c.in_default.not-chunks_subset is
  of (call.OfArray (of_array.OfBox of_box.ChunksInArraySubset)) is = c.in_default.not-chunks_in_array_subset is
  of (call.OfArray (of_array.OfWalk walk_of.Chunks)) is = c.in_default.not-iter_chunk_indices is
  of (call.OfArray (of_array.OfWalk walk_of.Boxes)) is = c.in_default.not-iter_chunk_subsets is
  of (call.OfArray (of_array.OfWalk walk_of.ChunksAndBoxes)) is = c.in_default.not-iter_chunk_indices_and_subsets is
  of (call.OfArray of_array.Runs) is = c.in_default.not-runs is
  of (call.OfArray of_array.ChunkIndicesCounted) is = c.in_default.not-chunk_indices_counted is
  of (call.OfArray of_array.Locate) is = c.in_default.not-locate is
  of (call.OfArray of_array.Parts) is = c.in_default.not-parts is
  of (call.OfArray of_array.Tasks) is = c.in_default.not-tasks is
  of (call.OfArray of_array.TaskCounts) is = c.in_default.not-task_counts is
  of (call.OfArray of_array.ChangedChunks) is = c.in_default.not-changed_chunks is
  of call.Encode is = c.in_default.not-encode is
  of call.Decode is = c.in_default.not-decode is
  of call.ByteRanges is = c.in_default.not-byte_ranges is
