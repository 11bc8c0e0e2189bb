-- Dimensions whose chunks all have one edge: the `regular` grid.
-- Source: Zarr V3 core, regular grid.
use Rattle.std.specs.Prelude.{◌≡◌, ℕ, ◌+◌, ◌*◌, ◌≤◌, IsTrue, List}
use Rattle.zarrs_chunk_base.specs.Dimension.{Dimension, InEach, array_sizes}

-- Every number has a chunk, as long as the edge; chunk c begins after c edges. As many are
-- counted as it takes to reach over the array.
pub record IsEqualEdges (d : Dimension) (size edge : ℕ) : Type 0 where
  pub array_size : d.array_size ≡ size
  pub chunks : (c : ℕ) → IsTrue (d.has_chunk c)
  pub start : (c : ℕ) → d.start c ≡ c * edge
  pub end : (c : ℕ) → d.end c ≡ (c + 1) * edge
  pub covers : size ≤ d.grid_size * edge
  pub least : (n : ℕ) → size ≤ n * edge → d.grid_size ≤ n

-- the dimensions of an array shape and a chunk shape, which are of one length
abbrev pub AreEqualEdges : List Dimension → List ℕ → List ℕ → Type 0
AreEqualEdges = InEach IsEqualEdges

-- the edges of dimensions of equal edges
abbrev pub HaveEqualEdges : List Dimension → List ℕ → Type 0
HaveEqualEdges ds edges = AreEqualEdges ds (array_sizes ds) edges
