-- The call of the plan of reading a box, and the call that answers any question as text.
-- Sources: Zarr V3 core, chunk grids and chunk key encodings; the plan is this library's own.
use Rattle.std.specs.Prelude.{◌≡◌, ◌⊎◌, ℕ, List, [], ◌∷◌, length}
use Rattle.zarrs_chunk_base.specs.ArraySubset.{Box, IsBox}
use Rattle.zarrs_chunk_base.specs.Greatest.{greatest}
use Rattle.zarrs_chunk_base.specs.Grid.{Grid}
use Rattle.zarrs_chunk_keys.specs.ChunkKey.{Encoding, IsKey}
use Rattle.zarrs_chunk_questions.specs.AnswerLine.{AsksForItems, HasLongAnswer, IsAnswerTo}
use Rattle.zarrs_chunk_batches.specs.Batch.{AreLengths, IsTooLong, IsWhole}
use Rattle.zarrs_chunk_batches.specs.Calls.{Call}
use Rattle.zarrs_chunk_batches.specs.Parts.{IsPlanOf, IsPlanTooLong, IsRoomFor}
use Rattle.zarrs_chunk_batches.specs.Said.{IsNoEncoding, IsNoGrid, SaysEncoding, SaysGrid}
use Rattle.zarrs_chunk_batches.specs.declared.codes.Fault.{Fault}
use Rattle.zarrs_chunk_batches.specs.declared.codes.Fault.TheVariants.{NotBox, Short}
use Rattle.zarrs_chunk_batches.specs.declared.structs.ElementBox.{ElementBox}
use Rattle.zarrs_chunk_batches.specs.declared.structs.PartBuffers.{PartBuffers}
use Rattle.zarrs_chunk_batches.specs.declared.structs.StoredArray.{StoredArray}

-- why there are no grid and encoding: the array's grid is none; or it is one, and its encoding is none
pub data IsNeither (array : StoredArray) (fault : Fault) : Type 0 where
  no_grid : IsNoGrid array.chunk_grid.now array.shape.now fault → IsNeither array fault
  no_encoding : (grid : Grid) → SaysGrid array.chunk_grid.now array.shape.now grid → IsNoEncoding array.chunk_key_encoding.now fault
      → IsNeither array fault

-- the box has one list each, and there is room for so many parts
abbrev pub HasRoom : (width : ℕ) → ElementBox → PartBuffers → (room : ℕ) → Type 0
HasRoom width elements buffers room =
    AreLengths width 1 (length elements.start.now ∷ length elements.shape.now ∷ []) × IsRoomFor width buffers room

-- the box that is asked for
abbrev pub box_in : ElementBox → Box
box_in elements = record { start = elements.start.now; shape = elements.shape.now }

-- The plan of reading a box. A start and a shape that are those of no box are refused; then a plan whose keys are longer than their buffer: all but
-- the keys is written all the same.
abbrev pub parts_call : StoredArray → ElementBox → (first : ℕ) → PartBuffers → Call (Grid × Encoding)
parts_call array elements first buffers = record {
  Misses = IsNeither array;
  Says = λ said. SaysGrid array.chunk_grid.now array.shape.now said.0 × SaysEncoding array.chunk_key_encoding.now said.1;
  Fits = λ said. (room : ℕ) × HasRoom (length said.0.dimensions) elements buffers room;
  Refuses = λ said fault.
      ((fault ≡ NotBox) × ¬ IsBox (box_in elements))
      ⊎ ((fault ≡ Short) × IsBox (box_in elements) × IsPlanTooLong said.0.dimensions (IsKey said.1) (box_in elements) first buffers);
  Answers = λ said. IsBox (box_in elements) × IsPlanOf said.0.dimensions (IsKey said.1) (box_in elements) first buffers;
}

-- where there is no plan, none of it is counted
abbrev pub IsUncounted : PartBuffers → Type 0
IsUncounted buffers = buffers.found ≡ 0 → (buffers.needed ≡ 0) × (buffers.count ≡ 0) × (buffers.in_all ≡ 0)

-- Any question, which is always answered, by one line. It is refused where that is longer than its buffer; how long it is, is told, or the greatest
-- number where that isn't known, which it may be where items are asked for.
abbrev pub answer_call : (question line : List ℕ) (needed : ℕ) → Call (Unit {0})
answer_call question line needed = record {
  Misses = λ _. ⊥;
  Says = λ _. Unit {0};
  Fits = λ _. Unit {0};
  Refuses = λ _ fault.
      (fault ≡ Short)
      × (IsTooLong (IsAnswerTo question) line needed
      ⊎ ((needed ≡ greatest) × AsksForItems question × HasLongAnswer question (length line)));
  Answers = λ _. IsWhole (IsAnswerTo question) line needed;
}
