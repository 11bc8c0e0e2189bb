-- Dimensions whose chunks all have one edge, except that none reaches past the array: the `regular_bounded` grid.
-- Source: the extension `zarrs.regular_bounded`, after the Zarr V3 core regular grid.
use Rattle.std.specs.Prelude.{◌≡◌, ◌↔◌, ℕ, ◌+◌, ◌*◌, ◌<◌, ◌≤◌, min, IsTrue, List}
use Rattle.zarrs_chunk_base.specs.Dimension.{Dimension, InEach}
use Rattle.zarrs_chunk_base.specs.DimensionEdges.{DimensionEdges, equal, listed}

-- A number has a chunk where it would start within the array. Chunk c begins after c edges, and ends an edge
-- later or where the array does. As many are counted as it takes to reach over the array.
pub record IsBounded (d : Dimension) (size edge : ℕ) : Type 0 where
  pub array_size : d.array_size ≡ size
  pub chunks : (c : ℕ) → IsTrue (d.has_chunk c) ↔ c * edge < size
  pub start : (c : ℕ) → IsTrue (d.has_chunk c) → d.start c ≡ c * edge
  pub end : (c : ℕ) → IsTrue (d.has_chunk c) → d.end c ≡ min ((c + 1) * edge) size
  pub covers : size ≤ d.grid_size * edge
  pub least : (n : ℕ) → size ≤ n * edge → d.grid_size ≤ n

-- a bounded dimension has one edge
abbrev pub IsBoundedBy : Dimension → ℕ → DimensionEdges → Type 0
IsBoundedBy d size (equal edge) = IsBounded d size edge
IsBoundedBy d size (listed edges) = ⊥

-- the dimensions of an array shape and a chunk shape, which are of one length
abbrev pub AreBounded : List Dimension → List ℕ → List ℕ → Type 0
AreBounded = InEach IsBounded
