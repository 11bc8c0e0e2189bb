-- Dimensions that have the same chunks, and grids that answer alike.
use Rattle.std.specs.Prelude.{◌≡◌, ◌↔◌, ℕ, Bool, IsTrue, List, Result, map}
use Rattle.std.specs.List.{AllZip}
use Rattle.zarrs_chunk_base.specs.ArraySubset.{Box}
use Rattle.zarrs_chunk_base.specs.Dimension.{Dimension, array_sizes, grid_sizes}
use Rattle.zarrs_chunk_base.specs.declared.incompatible_dimensionality_error.IncompatibleDimensionalityError.{IncompatibleDimensionalityError}
use Rattle.zarrs_chunk_base.specs.declared.refusal.Refusal.{Refusal}
use Rattle.zarrs_chunk_axes.specs.LookUp.{AnswersChunk, AnswersHome, AnswersOrigin, AnswersPlace, AnswersShape, AnswersShapeNumbers}
use Rattle.zarrs_chunks.specs.Subsets.{AnswersChunksSubset, AnswersCover, AnswersEmptyCover, AnswersSubset, LookedBox}
use Rattle.zarrs_chunks.specs.Walks.{box_at, boxed, chunks_of}

-- two dimensions count alike, have the same chunks, and each starts and ends at the same numbers
pub record AreAlike (d e : Dimension) : Type 0 where
  pub array_size : d.array_size ≡ e.array_size
  pub grid_size : d.grid_size ≡ e.grid_size
  pub chunks : (c : ℕ) → IsTrue (d.has_chunk c) ↔ IsTrue (e.has_chunk c)
  pub start : (c : ℕ) → IsTrue (d.has_chunk c) → d.start c ≡ e.start c
  pub end : (c : ℕ) → IsTrue (d.has_chunk c) → d.end c ≡ e.end c

-- as many dimensions in both lists, each like the one at its place
abbrev pub AreAllAlike : List Dimension → List Dimension → Type 0
AreAllAlike = AllZip AreAlike

-- what the one grid may answer to a question, the other may
abbrev pub AnswersAsWell : {Q A : Type 0} → (List Dimension → Q → A → Type 0) → List Dimension → List Dimension → Type 0
AnswersAsWell {Q} {A} Answers ds es = (asked : Q) (answer : A) → Answers ds asked answer → Answers es asked answer

-- a chunk with its box, and the counted chunks that have one with theirs
abbrev pub chunk_and_box : List Dimension → List ℕ → List ℕ × Box
chunk_and_box ds chunk = (chunk, box_at ds chunk)

abbrev pub chunks_and_boxes : List Dimension → List (List ℕ × Box)
chunks_and_boxes ds = map (chunk_and_box ds) (boxed ds (chunks_of ds))

-- To each look-up, and about boxes and covers, the other grid may answer what the one may, and the walks give the same. Which indices are in
-- bounds is left out: a grid may have bounds of its own where an array size is 0.
pub record AnswerAlike (ds es : List Dimension) : Type 0 where
  pub array_shape : array_sizes ds ≡ array_sizes es
  pub grid_shape : grid_sizes ds ≡ grid_sizes es
  pub chunk_shape : AnswersAsWell AnswersShape ds es
  pub chunk_shape_u64 : AnswersAsWell AnswersShapeNumbers ds es
  pub chunk_origin : AnswersAsWell AnswersOrigin ds es
  pub chunk_indices : AnswersAsWell AnswersChunk ds es
  pub chunk_element_indices : AnswersAsWell AnswersPlace ds es
  pub find_home : (index : List ℕ) (found : Result Bool (Refusal IncompatibleDimensionalityError)) (chunk place : List ℕ)
      → AnswersHome ds index found chunk place → AnswersHome es index found chunk place
  pub subset : AnswersAsWell AnswersSubset ds es
  pub chunks_subset : AnswersAsWell AnswersChunksSubset ds es
  pub cover : AnswersAsWell AnswersCover ds es
  pub empty_cover : (answer : LookedBox) → AnswersEmptyCover ds answer → AnswersEmptyCover es answer
  pub walk : chunks_of ds ≡ chunks_of es
  pub walk_of_boxes : chunks_and_boxes ds ≡ chunks_and_boxes es
