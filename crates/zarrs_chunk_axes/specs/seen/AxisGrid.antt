-- How a list of axes is seen as dimensions, and that they are chains.
use Rattle.std.specs.Prelude.{◌≡◌, ℕ, Bool, List, map}
use Rattle.std.specs.List.{AllByRecursion}
use Rattle.zarrs_chunk_axes.specs.declared.axis.Axis.{Ghosts}
use Rattle.zarrs_chunk_axes.specs.declared.axis_grid.AxisGrid.{AxisGrid}
use Rattle.zarrs_chunk_base.specs.Dimension.{Dimension, InEach, IsChain, array_sizes}
use Rattle.zarrs_chunk_base.specs.DimensionEdges.{DimensionEdges}
use Rattle.zarrs_chunk_axes.specs.lemmas.AllChains.{are_chains}
use Rattle.zarrs_chunk_base.specs.Grid.{Grid}
use Rattle.zarrs_chunk_axes.specs.lemmas.AllFromEdges.{IsFromEdges, are_from_edges}
use Rattle.zarrs_chunk_axes.specs.lemmas.AllMade.{are_made}
use Rattle.zarrs_chunk_axes.specs.seen.DimensionFrom.{dimensions_from}

-- the dimensions of a list of axes, one for each
abbrev pub dimensions_of : {A : Type 0} {axis : Ghosts A} → AxisGrid A axis → List Dimension
dimensions_of {A} {axis} grid = map axis.dimension grid.axes.items

-- the edges that they were made with
abbrev pub edges_of : {A : Type 0} {axis : Ghosts A} → AxisGrid A axis → List DimensionEdges
edges_of {A} {axis} grid = map axis.edges grid.axes.items

-- the two together
abbrev pub grid_of : {A : Type 0} {axis : Ghosts A} → AxisGrid A axis → Grid
grid_of grid = record { dimensions = dimensions_of grid; edges = edges_of grid }

-- they are chains, where the dimension of each axis is one
pub chains_of : {A : Type 0} {axis : Ghosts A} → ((a : A) → IsChain (axis.dimension a)) → (grid : AxisGrid A axis)
    → AllByRecursion IsChain (dimensions_of grid)
chains_of {A} {axis} chain grid = are_chains axis.dimension chain grid.axes.items

-- and each is made of its array size and its edges
pub made_of : {A : Type 0} {axis : Ghosts A} (is_made_of : Dimension → ℕ → DimensionEdges → Type 0)
    → ((a : A) → is_made_of (axis.dimension a) (axis.dimension a).array_size (axis.edges a))
    → (grid : AxisGrid A axis) → InEach is_made_of (dimensions_of grid) (array_sizes (dimensions_of grid)) (edges_of grid)
made_of {A} {axis} is_made_of made grid = are_made axis.dimension axis.edges is_made_of made grid.axes.items

-- and they are those of the array sizes and the edges
pub from_edges : {A : Type 0} {axis : Ghosts A} (bounded : Bool) → ((a : A) → IsFromEdges axis.dimension axis.edges bounded a)
    → (grid : AxisGrid A axis) → dimensions_of grid ≡ dimensions_from bounded (array_sizes (dimensions_of grid)) (edges_of grid)
from_edges {A} {axis} bounded each grid = are_from_edges axis.dimension axis.edges bounded each grid.axes.items
