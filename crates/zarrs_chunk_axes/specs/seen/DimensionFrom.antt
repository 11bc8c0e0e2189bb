-- The dimension that is seen of an array size and edges.
use Rattle.std.specs.Prelude.{ℕ, Bool, true, false, List, [], ◌∷◌}
use Rattle.zarrs_chunk_base.specs.Dimension.{Dimension}
use Rattle.zarrs_chunk_base.specs.DimensionEdges.{DimensionEdges, equal, listed}
use Rattle.zarrs_chunk_axes.specs.seen.BoundedAxis.{bounded_from}
use Rattle.zarrs_chunk_axes.specs.seen.EqualAxis.{equal_from}
use Rattle.zarrs_chunk_axes.specs.seen.ListedEdges.{listed_from}

-- by whether chunks of one edge end with the array
abbrev pub dimension_from : Bool → ℕ → DimensionEdges → Dimension
dimension_from true size (equal edge) = bounded_from size edge
dimension_from false size (equal edge) = equal_from size edge
dimension_from _ size (listed edges) = listed_from size edges

-- one for each array size and edges
abbrev pub dimensions_from : Bool → List ℕ → List DimensionEdges → List Dimension
dimensions_from bounded (size ∷ shape) (edges ∷ all) = dimension_from bounded size edges ∷ dimensions_from bounded shape all
dimensions_from bounded _ _ = []
