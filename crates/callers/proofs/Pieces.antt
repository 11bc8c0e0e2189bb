-- Pieces that were read of the parts of a plan make up the box.
use Rattle.std.proofs.Common.{◌≡◌, ◌∙◌, ℕ, List, [], ◌∷◌, map, ◌↔◌, refl, sym, subst}
use Rattle.std.specs.List.{AllByRecursion, AllPairs, AllZip, Contains}
use Rattle.zarrs_chunk_axes.specs.InBounds.{AreBelow}
use Rattle.zarrs_chunk_axes.specs.RowMajor.{row_major}
use Rattle.zarrs_chunk_axes.proofs.RowMajor.{all_below}
use Rattle.zarrs_chunk_base.specs.ArraySubset.{Box, IsInside}
use Rattle.zarrs_chunk_base.specs.Dimension.{Dimension, InBox, IsPlace}
use Rattle.zarrs_chunk_plan.proofs.Plans.{pair_of, pairs_by, source_of}
use Rattle.zarrs_chunk_parts.specs.Plan.{HasElement, IsPart, IsPlan}
use Rattle.zarrs_chunk_parts.specs.declared.part.Part.{Part}
use Rattle.zarrs_chunks.specs.Walks.{chunks_in, counted_from}
use Rattle.callers.specs.Reading.{ArePieces, HasElements, HoldsArray, IsRead}
use Rattle.callers.specs.declared.reading.Piece.{Piece}

-- the law of plans: a part has each element at its place in the chunk
abbrev pub HavePlaces : List Dimension → (List ℕ → List ℕ → Type 0) → Box → Type 0
HavePlaces ds IsKey subset =
    (chunk : List ℕ) (part : Part) (index place : List ℕ) → IsPart ds IsKey subset chunk part → HasElement subset part index place
    → InBox ds chunk index × IsPlace ds chunk index place

-- what is read step by step is what the array has there
by_step : (answers : List ℕ → ℕ → Type 0) (array : List ℕ → ℕ) (shape first other : List ℕ) (steps : List (List ℕ)) (elements : List ℕ)
    → ((step : List ℕ) (element : ℕ) → AreBelow shape step → answers (counted_from first step) element → element ≡ array (counted_from other step))
    → AllByRecursion (AreBelow shape) steps → AllZip answers (map (counted_from first) steps) elements
    → AllZip (λ place element. element ≡ array place) (map (counted_from other) steps) elements
by_step answers array shape first other [] [] same below read = tt
by_step answers array shape first other [] (_ ∷ _) same below read = absurd read
by_step answers array shape first other (step ∷ steps) [] same below read = absurd read
by_step answers array shape first other (step ∷ steps) (element ∷ elements) same below read =
    (same step element below.0 read.0, by_step answers array shape first other steps elements same below.1 read.1)

has_elements : (ds : List Dimension) (IsKey : List ℕ → List ℕ → Type 0) (subset : Box) (answers : List ℕ → List ℕ → ℕ → Type 0) (array : List ℕ → ℕ)
    (chunk : List ℕ) (part : Part) (piece : Piece) → HavePlaces ds IsKey subset → HoldsArray ds IsKey answers array
    → IsPart ds IsKey subset chunk part → IsRead answers part piece → HasElements array subset piece
has_elements ds IsKey subset answers array chunk part piece places stored is (box, read) =
    let shape = part.in_chunk.shape in
    let same_shape : shape ≡ part.in_selection.shape = sym is.boxes.from_chunk.shape ∙ is.boxes.from_subset.shape in
    let elements =
    by_step (answers part.key) (λ place. array (counted_from subset.start place)) shape part.in_chunk.start part.in_selection.start (row_major shape)
    piece.elements.items
    (λ step element below found.
    let index = counted_from subset.start (counted_from part.in_selection.start step) in
    let place = counted_from part.in_chunk.start step in
    let lies = places chunk part index place is (record { steps = step; below = below; place_is = refl; index_is = refl }) in
    stored index chunk part.key place element lies.0 is.key lies.1 found) (all_below shape) read
    in
    subst (λ b. AllZip (λ place element. element ≡ array (counted_from subset.start place)) (chunks_in b) piece.elements.items) (sym box)
    (subst (λ sizes. AllZip (λ place element. element ≡ array (counted_from subset.start place))
    (map (counted_from part.in_selection.start) (row_major sizes)) piece.elements.items) same_shape elements)

each_has : (ds : List Dimension) (IsKey : List ℕ → List ℕ → Type 0) (subset : Box) (answers : List ℕ → List ℕ → ℕ → Type 0) (array : List ℕ → ℕ)
    (chunks : List (List ℕ)) (parts : List Part) (pieces : List Piece) → HavePlaces ds IsKey subset → HoldsArray ds IsKey answers array
    → AllZip (IsPart ds IsKey subset) chunks parts → AllZip (IsRead answers) parts pieces → AllByRecursion (HasElements array subset) pieces
each_has ds IsKey subset answers array chunks [] [] places stored are read = tt
each_has ds IsKey subset answers array chunks [] (_ ∷ _) places stored are read = absurd read
each_has ds IsKey subset answers array chunks (_ ∷ _) [] places stored are read = absurd read
each_has ds IsKey subset answers array [] (_ ∷ _) (_ ∷ _) places stored are read = absurd are
each_has ds IsKey subset answers array (chunk ∷ chunks) (part ∷ parts) (piece ∷ pieces) places stored are read = (
  has_elements ds IsKey subset answers array chunk part piece places stored are.0 read.0,
  each_has ds IsKey subset answers array chunks parts pieces places stored are.1 read.1,
)

-- two pieces share no place, since two parts don't
abbrev IsApart : Box → Box → Type 0
IsApart one other = (place : List ℕ) → IsInside one place → IsInside other place → ⊥

are_apart : (answers : List ℕ → List ℕ → ℕ → Type 0) (parts : List Part) (pieces : List Piece) → AllZip (IsRead answers) parts pieces
    → AllPairs (λ part other. IsApart part.in_selection other.in_selection) parts → AllPairs (λ piece other. IsApart piece.in_selection other.in_selection) pieces
are_apart answers parts pieces read apart =
    pairs_by (IsRead answers) (λ part other. IsApart part.in_selection other.in_selection)
    (λ piece other. IsApart piece.in_selection other.in_selection) parts pieces read apart
    (λ part other piece next _ _ apart is is_next. rw (is.0, is_next.0) apart)

pub are_pieces : (ds : List Dimension) (IsKey : List ℕ → List ℕ → Type 0) (subset : Box) (answers : List ℕ → List ℕ → ℕ → Type 0) (array : List ℕ → ℕ)
    (parts : List Part) (pieces : List Piece) → HavePlaces ds IsKey subset → HoldsArray ds IsKey answers array
    → ((place : List ℕ) → AreBelow subset.shape place ↔ ((part : Part) × Contains parts part × IsInside part.in_selection place))
    → AllPairs (λ part other. IsApart part.in_selection other.in_selection) parts → IsPlan ds IsKey subset parts → AllZip (IsRead answers) parts pieces
    → ArePieces array subset pieces
are_pieces ds IsKey subset answers array parts pieces places stored tile apart plan read = record {
  all = λ place. (
    λ below.
        let (part, is_among, inside) = (tile place).0 below in
        let (piece, also_among, is) = pair_of (IsRead answers) parts pieces read part is_among in
        (piece, also_among, rw is.0 inside),
    λ (piece, is_among, inside).
        let (part, also_among, is) = source_of (IsRead answers) parts pieces read piece is_among in
        (tile place).1 (part, also_among, rw is.0 at inside),
  );
  apart = are_apart answers parts pieces read apart;
  each = each_has ds IsKey subset answers array (chunks_in plan.cover) parts pieces places stored plan.are_parts read;
}
