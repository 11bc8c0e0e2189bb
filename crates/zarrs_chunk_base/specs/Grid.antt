-- What a chunk grid means.
-- Sources: Zarr V3 core, chunk grids; ZEP 3, variable chunks.
use Rattle.std.specs.Prelude.{List}
use Rattle.zarrs_chunk_base.specs.Dimension.{Dimension}
use Rattle.zarrs_chunk_base.specs.DimensionEdges.{DimensionEdges}

-- a grid: its dimensions, and the edges in each that it was made with
pub record Grid : Type 0 where
  pub dimensions : List Dimension
  pub edges : List DimensionEdges
