-- What is asked of a chunk grid: what each request is given, in the order of the parameters of its call, and what answers it.
-- Sources: Zarr V3 core, chunk grids.
use Rattle.std.specs.Prelude.{◌≡◌, ℕ, List, [], ◌∷◌, length}
use Rattle.zarrs_chunk_base.specs.ArraySubset.{Box, IsBox}
use Rattle.zarrs_chunk_base.specs.Dimension.{Dimension, InBox, IsPlace, grid_sizes}
use Rattle.zarrs_chunk_base.specs.Grid.{Grid}
use Rattle.zarrs_chunks.specs.Subsets.{HasNoBox, HasNoHome, Spans}
use Rattle.zarrs_chunk_prepared.specs.LookedUp.{HasNoCover, IsCoverOf}
use Rattle.zarrs_chunk_batches.specs.Batch.{AreAnswered, AreLengths, list_at}
use Rattle.zarrs_chunk_batches.specs.Calls.{AreQuestions, Call, IsFirstWrong, Request, asks}
use Rattle.zarrs_chunk_batches.specs.Said.{IsNoGrid, SaysGrid}
use Rattle.zarrs_chunk_batches.specs.declared.codes.Fault.{Fault}
use Rattle.zarrs_chunk_batches.specs.declared.codes.Fault.TheVariants.{NotBox}

-- nothing is refused but for the metadata and the lengths
abbrev pub RefusesNone : {X : Type 0} → X → Fault → Type 0
RefusesNone _ _ = ⊥

-- What is asked of a grid with arrays that have so many numbers: as many as so many lists have, with a number for each dimension.
abbrev pub grid_request : (totals : List ℕ) (count : ℕ) (Refuses : Grid → Fault → Type 0) (Answers : Grid → Type 0) → Request Grid
grid_request totals count Refuses Answers = record {
  Fits = λ grid. AreLengths (length grid.dimensions) count totals;
  Refuses = Refuses;
  Answers = Answers;
}

-- a call of the grid that metadata say
abbrev pub grid_call : (shape metadata : List ℕ) → Request Grid → Call Grid
grid_call shape metadata = asks (IsNoGrid metadata shape) (SaysGrid metadata shape)

-- how many chunks are counted
abbrev pub grid_shape_request : (grid_shape : List ℕ) → Request Grid
grid_shape_request grid_shape = grid_request (length grid_shape ∷ []) 1 RefusesNone (λ grid. grid_shape ≡ grid_sizes grid.dimensions)

-- the chunk of each element
abbrev pub AreChunksOf : List Dimension → (indices chunks marks : List ℕ) → Type 0
AreChunksOf ds indices chunks marks =
    AreAnswered (λ k chunk _. InBox ds chunk (list_at (length ds) indices k)) (λ k. HasNoHome ds (list_at (length ds) indices k))
    (length ds, 0) chunks [] marks

abbrev pub chunk_indices_request : (indices chunks marks : List ℕ) → Request Grid
chunk_indices_request indices chunks marks =
    grid_request (length indices ∷ length chunks ∷ []) (length marks) RefusesNone (λ grid. AreChunksOf grid.dimensions indices chunks marks)

-- the chunk of each element, and the place there
abbrev pub AreHomesOf : List Dimension → (indices chunks places marks : List ℕ) → Type 0
AreHomesOf ds indices chunks places marks =
    AreAnswered (λ k chunk place. InBox ds chunk (list_at (length ds) indices k) × IsPlace ds chunk (list_at (length ds) indices k) place)
    (λ k. HasNoHome ds (list_at (length ds) indices k)) (length ds, length ds) chunks places marks

abbrev pub homes_request : (indices chunks places marks : List ℕ) → Request Grid
homes_request indices chunks places marks =
    grid_request (length indices ∷ length chunks ∷ length places ∷ []) (length marks) RefusesNone
    (λ grid. AreHomesOf grid.dimensions indices chunks places marks)

-- the box of each chunk
abbrev pub chunk_boxes_request : (chunks origins shapes marks : List ℕ) → Request Grid
chunk_boxes_request chunks origins shapes marks =
    grid_request (length chunks ∷ length origins ∷ length shapes ∷ []) (length marks) RefusesNone
    (λ grid.
    let width = length grid.dimensions in
    AreAnswered
    (λ k origin sizes.
    Spans grid.dimensions (list_at width chunks k) (list_at width chunks k) (record { start = origin; shape = sizes }))
    (λ k. HasNoBox grid.dimensions (list_at width chunks k)) (width, width) origins shapes marks)

-- the box of the start and the shape with this number
abbrev pub box_asked : ℕ → (starts shapes : List ℕ) → ℕ → Box
box_asked width starts shapes number = record { start = list_at width starts number; shape = list_at width shapes number }

-- the cover of each box; the first start and shape that are those of no box are refused, and which they are is told
abbrev pub covers_request : (starts shapes first_chunks chunk_counts marks : List ℕ) (wrong : ℕ) → Request Grid
covers_request starts shapes first_chunks chunk_counts marks wrong =
    grid_request (length starts ∷ length shapes ∷ length first_chunks ∷ length chunk_counts ∷ []) (length marks)
    (λ grid fault.
    let width = length grid.dimensions in
    (fault ≡ NotBox) × IsFirstWrong (length marks) (λ k. IsBox (box_asked width starts shapes k)) wrong)
    (λ grid.
    let width = length grid.dimensions in
    AreQuestions (length marks) (λ k. IsBox (box_asked width starts shapes k))
    × AreAnswered
    (λ k first counts. IsCoverOf grid.dimensions (box_asked width starts shapes k) (record { start = first; shape = counts }))
    (λ k. HasNoCover grid.dimensions (box_asked width starts shapes k)) (width, width) first_chunks chunk_counts marks)
