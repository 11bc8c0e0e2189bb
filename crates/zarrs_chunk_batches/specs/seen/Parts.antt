-- Parts that were found, and what is written of them.
use Rattle.std.specs.Prelude.{◌≡◌, ℕ, ◌<◌, List, Some, length}
use Rattle.std.specs.List.{slice_get}
use Rattle.zarrs_chunk_parts.specs.declared.part.Part.{Part}
use Rattle.zarrs_chunk_batches.specs.Batch.{list_at}
use Rattle.zarrs_chunk_batches.specs.declared.structs.PartBuffers.{PartBuffers}
use Rattle.zarrs_chunk_batches.specs.seen.Lists.{HasList}

-- there is room for the lists with this number
pub record HasLists (width : ℕ) (buffers : PartBuffers) (number : ℕ) : Type 0 where
  pub has_chunk : HasList width buffers.chunks.now number
  pub has_in_chunk : HasList width buffers.in_chunk.now number
  pub has_in_selection : HasList width buffers.in_selection.now number
  pub has_shape : HasList width buffers.shapes.now number

-- the lists of the part are so long
pub record IsLongPart (width : ℕ) (part : Part) : Type 0 where
  pub chunk : length part.chunk.items ≡ width
  pub in_chunk : length part.in_chunk.start ≡ width
  pub in_selection : length part.in_selection.start ≡ width
  pub shape : length part.in_chunk.shape ≡ width

-- the lists with this number are those of the part
pub record IsWritten (width : ℕ) (part : Part) (buffers : PartBuffers) (number : ℕ) : Type 0 where
  pub is_chunk : list_at width buffers.chunks.now number ≡ part.chunk.items
  pub is_in_chunk : list_at width buffers.in_chunk.now number ≡ part.in_chunk.start
  pub is_in_selection : list_at width buffers.in_selection.now number ≡ part.in_selection.start
  pub is_shape : list_at width buffers.shapes.now number ≡ part.in_chunk.shape

-- those of each part with a number below the count
abbrev pub AreWrittenBelow : ℕ → ℕ → List Part → PartBuffers → Type 0
AreWrittenBelow count width parts buffers =
    (number : ℕ) → number < count → (part : Part) → slice_get parts number ≡ Some part → IsWritten width part buffers number

-- the text is the key of the part with this number
abbrev pub IsKeyOf : List Part → ℕ → List ℕ → Type 0
IsKeyOf parts number key = (part : Part) → slice_get parts number ≡ Some part → key ≡ part.key
