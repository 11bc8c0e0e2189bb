-- Of which array sizes and edges there is a `rectangular` grid.
-- Source: ZEP 3, variable chunks.
use Rattle.std.specs.Prelude.{◌≡◌, ◌≢◌, ℕ, List, []}
use Rattle.std.specs.List.{sum, AllZip}
use Rattle.zarrs_chunk_base.specs.DimensionEdges.{DimensionEdges, equal, listed}

-- a list of edges isn't empty, and its sum is the array size
abbrev pub IsRectangular : ℕ → DimensionEdges → Type 0
IsRectangular size (equal edge) = Unit {0}
IsRectangular size (listed edges) = (edges ≢ []) × (sum edges ≡ size)

-- the array sizes and edges of a grid, one of each a dimension
abbrev pub AreRectangular : List ℕ → List DimensionEdges → Type 0
AreRectangular = AllZip IsRectangular
