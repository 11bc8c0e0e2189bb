-- The chunk edges of one dimension: one for all chunks, or one for each.
-- Sources: ZEP 3, variable chunks; the `rectilinear` extension of zarr-extensions.
use Rattle.std.specs.Prelude.{ℕ, List, map}
use Rattle.std.specs.Int.NonZero.{non_zero_u64_get}
use Rattle.zarrs_chunk_base.specs.declared.dimension_configuration.RectangularChunkGridDimensionConfiguration.{
  RectangularChunkGridDimensionConfiguration,
}
use Rattle.zarrs_chunk_base.specs.declared.dimension_configuration.RectangularChunkGridDimensionConfiguration.TheVariants.{Fixed, Varying}

-- one edge for all chunks, or an edge for each chunk
pub data DimensionEdges : Type 0 where
  equal : ℕ → DimensionEdges
  listed : List ℕ → DimensionEdges

-- the edges of a dimension of a `rectangular` grid
abbrev pub rectangular_edges : RectangularChunkGridDimensionConfiguration → DimensionEdges
rectangular_edges (Fixed edge) = equal (non_zero_u64_get edge)
rectangular_edges (Varying edges) = listed (map non_zero_u64_get edges.items)
