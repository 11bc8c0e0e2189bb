-- Boxes of indices and boxes of chunks, in a chunk grid.
-- Source: Zarr V3 core, chunk grids; the cover is this library's own.
use Rattle.std.specs.Prelude.{◌≡◌, ◌⊎◌, ℕ, List, length, Option, Some, None, Result, Ok, Err}
use Rattle.zarrs_chunk_base.specs.declared.incompatible_dimensionality_error.IncompatibleDimensionalityError.{IncompatibleDimensionalityError}
use Rattle.zarrs_chunk_base.specs.declared.refusal.Refusal.{Refusal}
use Rattle.zarrs_chunk_base.specs.declared.refusal.Refusal.TheVariants.{Refused, Memory}
use Rattle.zarrs_chunk_base.specs.ArraySubset.{Box, IsBox, IsEmptyBox, ends, lasts, zero_box}
use Rattle.zarrs_chunk_base.specs.Dimension.{Dimension, InBox, IsEnd, IsOrigin}
use Rattle.zarrs_chunk_base.specs.Refusal.{Answers, AnswersOrMemory}

-- what a call that answers a box gives: the box, none, or why it is refused
abbrev pub LookedBox : Type 0
LookedBox = Result (Option Box) (Refusal IncompatibleDimensionalityError)

-- the box from where the first chunk starts to where the last one ends
pub record Spans (ds : List Dimension) (first last : List ℕ) (b : Box) : Type 0 where
  pub is_box : IsBox b
  pub start : IsOrigin ds first b.start
  pub end : IsEnd ds last (ends b.start b.shape)

-- no box is that of the chunk: there is no such chunk, or it ends past the greatest number
abbrev pub HasNoBox : List Dimension → List ℕ → Type 0
HasNoBox ds chunk = (b : Box) → ¬ Spans ds chunk chunk b

-- the box of a chunk, and none where it has none
abbrev pub AnswersSubset : List Dimension → List ℕ → LookedBox → Type 0
AnswersSubset ds chunk = Answers (length chunk) (length ds) (Spans ds chunk chunk) (HasNoBox ds chunk)

-- The box of the chunks of a box: from where its first chunk starts to where its last one ends, and none where one
-- of the two has no box. Of an empty box it is the empty box that begins at 0.
abbrev pub AnswersChunksSubset : List Dimension → Box → LookedBox → Type 0
AnswersChunksSubset ds chunks =
    let last = lasts chunks.start chunks.shape in
    AnswersOrMemory (length chunks.start) (length ds)
    (λ b. (IsEmptyBox chunks → b ≡ zero_box (length ds)) × ((¬ IsEmptyBox chunks) → Spans ds chunks.start last b))
    ((¬ IsEmptyBox chunks) × (HasNoBox ds chunks.start ⊎ HasNoBox ds last))

-- the box of chunks from that of a box's first element to that of its last
pub record IsCover (ds : List Dimension) (b cover : Box) : Type 0 where
  pub is_box : IsBox cover
  pub some : ¬ IsEmptyBox cover
  pub first : InBox ds cover.start b.start
  pub last : InBox ds (lasts cover.start cover.shape) (lasts b.start b.shape)

-- no chunk holds the index
abbrev pub HasNoHome : List Dimension → List ℕ → Type 0
HasNoHome ds index = (chunk : List ℕ) → ¬ InBox ds chunk index

-- the cover of a box, and none where its first or its last element lies in no chunk
abbrev pub AnswersCover : List Dimension → Box → LookedBox → Type 0
AnswersCover ds b = AnswersOrMemory (length b.start) (length ds) (IsCover ds b) (HasNoHome ds b.start ⊎ HasNoHome ds (lasts b.start b.shape))

-- the cover of an empty box: the empty box that begins at 0
abbrev pub AnswersEmptyCover : List Dimension → LookedBox → Type 0
AnswersEmptyCover ds (Ok (Some cover)) = cover ≡ zero_box (length ds)
AnswersEmptyCover ds (Ok None) = ⊥
AnswersEmptyCover ds (Err (Refused _)) = ⊥
AnswersEmptyCover ds (Err (Memory _)) = Unit {0}
