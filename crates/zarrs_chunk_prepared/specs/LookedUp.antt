-- What is looked up in a prepared grid.
use Rattle.std.specs.Prelude.{◌≡◌, ◌≢◌, ◌⊎◌, ℕ, List, [], ◌∷◌, length}
use Rattle.zarrs_chunk_base.specs.ArraySubset.{Box, IsEmptyBox, lasts, zero_box}
use Rattle.zarrs_chunk_base.specs.Dimension.{Dimension, InBox, IsPlace}
use Rattle.zarrs_chunk_base.specs.Refusal.{TellsLengths}
use Rattle.zarrs_chunk_base.specs.declared.incompatible_dimensionality_error.IncompatibleDimensionalityError.{IncompatibleDimensionalityError}
use Rattle.zarrs_chunks.specs.Subsets.{HasNoHome, IsCover}

-- an index and a chunk have a number for each dimension, and so has a place, or none
abbrev pub AreRoomForHome : ℕ → (index chunk place : List ℕ) → Type 0
AreRoomForHome width index chunk place = (length index ≡ width) × (length chunk ≡ width) × ((length place ≡ width) ⊎ (length place ≡ 0))

-- the chunk that holds the index; and the index's place there, where there is room for it
abbrev pub IsHomeIn : List Dimension → (index chunk place : List ℕ) → Type 0
IsHomeIn ds index chunk place = InBox ds chunk index × (length place ≡ length ds → IsPlace ds chunk index place)

-- an error tells the first of some lengths that isn't the number of dimensions, and that number
abbrev pub TellsFirstOther : ℕ → (lengths : List ℕ) → IncompatibleDimensionalityError → Type 0
TellsFirstOther width [] error = ⊥
TellsFirstOther width (given ∷ lengths) error =
    ((given ≢ width) × TellsLengths given width error) ⊎ ((given ≡ width) × TellsFirstOther width lengths error)

-- three lists have a number for each dimension
abbrev pub AreAsLong : ℕ → (one other third : List ℕ) → Type 0
AreAsLong width one other third = (length one ≡ width) × (length other ≡ width) × (length third ≡ width)

-- the cover of a box; of an empty one the empty box that begins at 0
abbrev pub IsCoverOf : List Dimension → Box → Box → Type 0
IsCoverOf ds b cover = ((¬ IsEmptyBox b) → IsCover ds b cover) × (IsEmptyBox b → cover ≡ zero_box (length ds))

-- the box isn't empty, and its first or its last element lies in no chunk
abbrev pub HasNoCover : List Dimension → Box → Type 0
HasNoCover ds b = (¬ IsEmptyBox b) × (HasNoHome ds b.start ⊎ HasNoHome ds (lasts b.start b.shape))
