-- What values of opened arrays mean, and of walks over them.
use Rattle.programs.specs.chunkplan.Common.{ℕ, List, Dimension, array_sizes, encoding_in, grid_in}
use Rattle.zarrs_chunk_keys.specs.declared.chunk_key_encoding.named.ChunkKeyEncoding.{ChunkKeyEncoding}
use Rattle.zarrs_chunk_plan.specs.declared.stored_array.StoredArray.{StoredArray}
use Rattle.zarrs_chunks.specs.declared.chunk_grid.named.ChunkGrid.{ChunkGrid}
pub use Rattle.zarrs_chunk_questions.specs.seen.Copies.{CanGiveParts, PartsToCome, dimensions_in, key_in}
use Rattle.programs.specs.chunkplan.Planned.{Array}

-- the dimensions of an opened array's grid, its sizes, and which bytes are a key of which of its chunks
abbrev pub dimensions_of : StoredArray ChunkGrid ChunkKeyEncoding → List Dimension
dimensions_of array = dimensions_in array.grid

abbrev pub sizes_of : StoredArray ChunkGrid ChunkKeyEncoding → List ℕ
sizes_of array = array_sizes (dimensions_of array)

abbrev pub key_of : StoredArray ChunkGrid ChunkKeyEncoding → List ℕ → List ℕ → Type 0
key_of array = key_in array.encoding

abbrev pub array_in : StoredArray ChunkGrid ChunkKeyEncoding → Array
array_in array = (grid_in array.grid, encoding_in array.encoding)
