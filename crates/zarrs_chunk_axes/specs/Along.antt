-- What a grid answers about one of its dimensions.
-- Sources: Zarr V3 core, chunk grids and the regular grid; ZEP 3, variable chunks.
use Rattle.std.specs.Prelude.{ℕ, zero, suc, ◌/◌, ◌<◌, List, [], ◌∷◌, Option, Some, None, slice_index_or}
use Rattle.std.specs.List.{Contains}
use Rattle.zarrs_chunk_base.specs.Dimension.{Dimension, HasEdge, Holds, StartsAt, array_sizes, grid_sizes}
use Rattle.zarrs_chunk_base.specs.Greatest.{greatest}

-- the dimension of this number has a property
abbrev pub Along : (Dimension → Type 0) → List Dimension → ℕ → Type 0
Along P [] dimension = ⊥
Along P (d ∷ ds) zero = P d
Along P (d ∷ ds) (suc dimension) = Along P ds dimension

-- along the dimension of this number, chunk c holds the index i
abbrev pub HoldsAlong : List Dimension → (dimension i c : ℕ) → Type 0
HoldsAlong ds dimension i c = Along (λ d. Holds d c i) ds dimension

-- a range of indices, its start and how many they are, is all that chunk c holds
pub record IsRange (d : Dimension) (c : ℕ) (range : ℕ × ℕ) : Type 0 where
  pub start : StartsAt d c range.0
  pub edge : HasEdge d c range.1

-- along the dimension of this number, chunk c has this range
abbrev pub IsRangeAlong : List Dimension → (dimension c : ℕ) → (range : ℕ × ℕ) → Type 0
IsRangeAlong ds dimension c range = Along (λ d. IsRange d c range) ds dimension

-- each element of the array lies in the chunk whose number is its index divided by the edge
abbrev pub IsRegular : Dimension → (edge : ℕ) → Type 0
IsRegular d edge = (i : ℕ) → i < d.array_size → Holds d (i / edge) i

-- the dimension of this number is regular, with this edge
abbrev pub IsRegularAlong : List Dimension → (dimension edge : ℕ) → Type 0
IsRegularAlong ds dimension edge = Along (λ d. IsRegular d edge) ds dimension

-- none of the sizes is 0, and the number is below the one of this dimension
abbrev pub IsBelowAlong : List ℕ → (dimension n : ℕ) → Type 0
IsBelowAlong sizes dimension n = (¬ Contains sizes 0) × (n < slice_index_or sizes dimension 0)

-- What a grid finds of an index along a dimension: the chunk that holds it, and none only where no element of the array has it there.
abbrev pub FindsChunk : List Dimension → (dimension i : ℕ) → Option ℕ → Type 0
FindsChunk ds dimension i (Some c) = HoldsAlong ds dimension i c
FindsChunk ds dimension i None = ¬ IsBelowAlong (array_sizes ds) dimension i

-- What it finds of a chunk number there: the chunk's range, and none only where no chunk that is counted has it, or one that starts past the
-- greatest number.
abbrev pub FindsRange : List Dimension → (dimension c : ℕ) → Option (ℕ × ℕ) → Type 0
FindsRange ds dimension c (Some range) = IsRangeAlong ds dimension c range
FindsRange ds dimension c None =
    IsBelowAlong (grid_sizes ds) dimension c → (range : ℕ × ℕ) → IsRangeAlong ds dimension c range → greatest < range.0
