-- Dimensions of one edge or of listed edges: the `rectangular` and the `rectilinear` grid.
-- Sources: ZEP 3, variable chunks; the `rectilinear` extension of zarr-extensions.
use Rattle.std.specs.Prelude.{ℕ, List}
use Rattle.zarrs_chunk_base.specs.Dimension.{Dimension, InEach}
use Rattle.zarrs_chunk_base.specs.DimensionEdges.{DimensionEdges, equal, listed}
use Rattle.zarrs_chunk_axes.specs.Listed.{IsListed}
use Rattle.zarrs_chunk_axes.specs.EqualEdges.{IsEqualEdges}

-- a dimension of one edge, or of listed edges
abbrev pub IsEqualOrListed : Dimension → ℕ → DimensionEdges → Type 0
IsEqualOrListed d size (equal edge) = IsEqualEdges d size edge
IsEqualOrListed d size (listed edges) = IsListed d size edges

-- the dimensions of a grid of array sizes and edges
abbrev pub AreEqualOrListed : List Dimension → List ℕ → List DimensionEdges → Type 0
AreEqualOrListed = InEach IsEqualOrListed
