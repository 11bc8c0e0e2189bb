-- What values of the grids mean, and that their dimensions are chains.
use Rattle.std.specs.Prelude.{ℕ, List}
use Rattle.std.specs.List.{AllByRecursion}
use Rattle.serde_json.specs.Data.{Members}
use Rattle.zarrs_chunk_base.specs.Configuration.{IsConfiguration}
use Rattle.zarrs_chunk_base.specs.Dimension.{IsChain, array_sizes}
use Rattle.zarrs_chunk_base.specs.Grid.{Grid}
use Rattle.zarrs_chunk_base.specs.GridConfigurations.{rectilinear_table, rectilinear_value}
use Rattle.zarrs_chunk_base.specs.Kinds.{IsConfigurationOf, IsMetadata, IsOf}
use Rattle.zarrs_chunk_base.specs.Metadata.{Extension}
use Rattle.zarrs_chunk_base.specs.RunLength.{EdgeLengths}
use Rattle.zarrs_chunk_axes.specs.seen.AxisGrid.{chains_of, grid_of}
use Rattle.zarrs_chunk_axes.specs.seen.BoundedAxis.{bounded_is_chain}
use Rattle.zarrs_chunk_axes.specs.seen.EqualAxis.{equal_is_chain}
use Rattle.zarrs_chunk_axes.specs.seen.EqualOr.{equal_or_is_chain}
use Rattle.zarrs_chunk_axes.specs.seen.ListedAxis.{listed_is_chain, listed_of}
use Rattle.zarrs_chunk_axes.specs.seen.RunsAxis.{runs_dimension, runs_is_chain}
use Rattle.zarrs_chunks.specs.GridKinds.{GridKind, grid_kind, rectangular, rectilinear, regular, regular_bounded}
use Rattle.zarrs_chunks.specs.declared.chunk_grid.named.ChunkGrid.{ChunkGrid}
use Rattle.zarrs_chunks.specs.declared.chunk_grid.named.ChunkGrid.TheVariants.{Rectangular, Rectilinear, Regular, RegularBounded}
use Rattle.zarrs_chunks.specs.declared.chunk_grid.rectangular.RectangularChunkGrid.{RectangularChunkGrid}
use Rattle.zarrs_chunks.specs.declared.chunk_grid.rectilinear.RectilinearChunkGrid.{RectilinearChunkGrid}
use Rattle.zarrs_chunks.specs.declared.chunk_grid.regular.RegularChunkGrid.{RegularChunkGrid}
use Rattle.zarrs_chunks.specs.declared.chunk_grid.regular_bounded.RegularBoundedChunkGrid.{RegularBoundedChunkGrid}

-- the dimensions and edges of a grid of each kind
abbrev pub regular_of : RegularChunkGrid → Grid
regular_of grid = grid_of grid.axes

abbrev pub regular_bounded_of : RegularBoundedChunkGrid → Grid
regular_bounded_of grid = grid_of grid.axes

abbrev pub rectangular_of : RectangularChunkGrid → Grid
rectangular_of grid = grid_of grid.axes

abbrev pub rectilinear_of : RectilinearChunkGrid → Grid
rectilinear_of grid = grid_of grid.axes

-- those of the grid inside a `ChunkGrid`
abbrev pub grid_in : ChunkGrid → Grid
grid_in (Regular grid) = regular_of grid
grid_in (RegularBounded grid) = regular_bounded_of grid
grid_in (Rectangular grid) = rectangular_of grid
grid_in (Rectilinear grid) = rectilinear_of grid

-- and its kind
abbrev pub kind_in : ChunkGrid → GridKind
kind_in (Regular grid) = regular
kind_in (RegularBounded grid) = regular_bounded
kind_in (Rectangular grid) = rectangular
kind_in (Rectilinear grid) = rectilinear

-- and its array shape
abbrev pub sizes_in : ChunkGrid → List ℕ
sizes_in grid = array_sizes (grid_in grid).dimensions

-- ---- metadata

-- these are the metadata of the grid
abbrev pub HasMetadata : ChunkGrid → Extension → Type 0
HasMetadata grid e = IsMetadata (grid_kind (kind_in grid)) (sizes_in grid) (grid_in grid) e

-- the grid is the one that metadata stand for, of an array of this shape
abbrev pub IsMadeBy : Extension → List ℕ → ChunkGrid → Type 0
IsMadeBy e shape grid = IsOf (grid_kind (kind_in grid)) e shape (grid_in grid)

-- these members are the configuration of the grid; and they say these edges
abbrev pub HasMembers : RectilinearChunkGrid → Members → Type 0
HasMembers grid members = IsConfigurationOf (grid_kind rectilinear) (array_sizes (rectilinear_of grid).dimensions) (rectilinear_of grid) members

abbrev pub Say : Members → List EdgeLengths → Type 0
Say members said = IsConfiguration rectilinear_table rectilinear_value members said

-- ---- chains

pub regular_chained : (grid : RegularChunkGrid) → AllByRecursion IsChain (regular_of grid).dimensions
regular_chained grid = chains_of equal_is_chain grid.axes

pub regular_bounded_chained : (grid : RegularBoundedChunkGrid) → AllByRecursion IsChain (regular_bounded_of grid).dimensions
regular_bounded_chained grid = chains_of bounded_is_chain grid.axes

pub rectangular_chained : (grid : RectangularChunkGrid) → AllByRecursion IsChain (rectangular_of grid).dimensions
rectangular_chained grid = chains_of (equal_or_is_chain listed_of listed_is_chain) grid.axes

pub rectilinear_chained : (grid : RectilinearChunkGrid) → AllByRecursion IsChain (rectilinear_of grid).dimensions
rectilinear_chained grid = chains_of (equal_or_is_chain runs_dimension runs_is_chain) grid.axes

pub chained_in : (grid : ChunkGrid) → AllByRecursion IsChain (grid_in grid).dimensions
chained_in (Regular grid) = regular_chained grid
chained_in (RegularBounded grid) = regular_bounded_chained grid
chained_in (Rectangular grid) = rectangular_chained grid
chained_in (Rectilinear grid) = rectilinear_chained grid
