-- Of which array sizes and edges there is a `rectilinear` grid.
-- Source: the `rectilinear` extension of zarr-extensions.
use Rattle.std.specs.Prelude.{◌≢◌, ℕ, ◌≤◌, List, []}
use Rattle.std.specs.List.{sum, AllZip}
use Rattle.zarrs_chunk_base.specs.DimensionEdges.{DimensionEdges, equal, listed}
use Rattle.zarrs_chunk_base.specs.Greatest.{greatest}

-- A list of edges isn't empty, and its sum reaches over the array but not past the greatest number. Each run-length
-- element stands for at least one edge, so the list is empty exactly where there are no elements.
abbrev pub IsRectilinear : ℕ → DimensionEdges → Type 0
IsRectilinear size (equal edge) = Unit {0}
IsRectilinear size (listed edges) = (edges ≢ []) × (size ≤ sum edges) × (sum edges ≤ greatest)

-- the array sizes and edges of a grid, one of each a dimension
abbrev pub AreRectilinear : List ℕ → List DimensionEdges → Type 0
AreRectilinear = AllZip IsRectilinear
