-- The array size of a dimension with edges.
use Rattle.std.specs.Prelude.{◌≡◌, ℕ}
use Rattle.zarrs_chunk_base.specs.Dimension.{Dimension}
use Rattle.zarrs_chunk_base.specs.DimensionEdges.{DimensionEdges, equal, listed}
use Rattle.zarrs_chunk_axes.specs.EqualOrListed.{IsEqualOrListed}

pub equal_or_listed_size : (d : Dimension) (size : ℕ) (edges : DimensionEdges) → IsEqualOrListed d size edges → d.array_size ≡ size
equal_or_listed_size d size (equal edge) has = has.array_size
equal_or_listed_size d size (listed edges) has = has.array_size
