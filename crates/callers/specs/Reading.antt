-- What a store answers of an array, and what is read of it.
use Rattle.std.specs.Prelude.{◌≡◌, ◌⊎◌, ◌↔◌, ℕ, List, [], length, Option, Some, None, Result, Ok, Err, Vec}
use Rattle.std.specs.declared.alloc.Global.{Global}
use Rattle.std.specs.List.{AllByRecursion, AllPairs, AllZip, Contains}
use Rattle.zarrs_chunk_axes.specs.InBounds.{AreBelow}
use Rattle.zarrs_chunk_base.specs.ArraySubset.{Box, IsInside, lasts}
use Rattle.zarrs_chunk_base.specs.Dimension.{Dimension, InBox, IsPlace}
use Rattle.zarrs_chunk_base.specs.Refusal.{AnswersOrMemory}
use Rattle.zarrs_chunk_base.specs.declared.incompatible_dimensionality_error.IncompatibleDimensionalityError.{IncompatibleDimensionalityError}
use Rattle.zarrs_chunk_base.specs.declared.refusal.Refusal.{Refusal}
use Rattle.zarrs_chunk_base.specs.declared.refusal.Refusal.TheVariants.{Refused, Memory}
use Rattle.zarrs_chunk_parts.specs.declared.part.Part.{Part}
use Rattle.zarrs_chunks.specs.Subsets.{HasNoHome}
use Rattle.zarrs_chunks.specs.Walks.{chunks_in, counted_from}
use Rattle.callers.specs.declared.reading.Piece.{Piece}

-- whatever the store answers of a key of the chunk of an element, and of the element's place there, is the array's element
abbrev pub HoldsArray : List Dimension → (List ℕ → List ℕ → Type 0) → (List ℕ → List ℕ → ℕ → Type 0) → (List ℕ → ℕ) → Type 0
HoldsArray ds IsKey answers array =
    (index chunk key place : List ℕ) (element : ℕ) → InBox ds chunk index → IsKey chunk key → IsPlace ds chunk index place → answers key place element
    → element ≡ array index

-- the piece was read of the part: it has an element for each place in the part's chunk, in row-major order
abbrev pub IsRead : (List ℕ → List ℕ → ℕ → Type 0) → Part → Piece → Type 0
IsRead answers part piece = (piece.in_selection ≡ part.in_selection) × AllZip (answers part.key) (chunks_in part.in_chunk) piece.elements.items

-- the piece has the array's elements, in row-major order; its box is counted from the start of another one
abbrev pub HasElements : (List ℕ → ℕ) → Box → Piece → Type 0
HasElements array subset piece =
    AllZip (λ place element. element ≡ array (counted_from subset.start place)) (chunks_in piece.in_selection) piece.elements.items

-- Pieces of the array that tile a box: a place lies in the box exactly where it lies in a piece, no place lies in two, and each
-- has the array's elements.
pub record ArePieces (array : List ℕ → ℕ) (subset : Box) (pieces : List Piece) : Type 0 where
  pub all : (place : List ℕ) → AreBelow subset.shape place ↔ ((piece : Piece) × Contains pieces piece × IsInside piece.in_selection place)
  pub apart : AllPairs (λ piece other. (place : List ℕ) → IsInside piece.in_selection place → IsInside other.in_selection place → ⊥) pieces
  pub each : AllByRecursion (HasElements array subset) pieces

-- what is answered of a box that isn't empty: its pieces, of each array that is held, and none where its first or its last element lies in no chunk
abbrev pub AnswersPieces : List Dimension → ((List ℕ → ℕ) → Type 0) → Box
    → Result (Option (Vec Piece Global)) (Refusal IncompatibleDimensionalityError) → Type 0
AnswersPieces ds IsHeld b =
    AnswersOrMemory (length b.start) (length ds) (λ pieces. (array : List ℕ → ℕ) → IsHeld array → ArePieces array b pieces.items)
    (HasNoHome ds b.start ⊎ HasNoHome ds (lasts b.start b.shape))

-- and of an empty one: no pieces
abbrev pub AnswersNoPieces : Result (Option (Vec Piece Global)) (Refusal IncompatibleDimensionalityError) → Type 0
AnswersNoPieces (Ok (Some pieces)) = pieces.items ≡ []
AnswersNoPieces (Ok None) = ⊥
AnswersNoPieces (Err (Refused _)) = ⊥
AnswersNoPieces (Err (Memory _)) = Unit {0}
