-- The elements of an array, and of some of its chunks.
-- Source: Zarr V3 core, chunk grids.
use Rattle.std.specs.Prelude.{◌↔◌, ℕ, List, length, replicate}
use Rattle.zarrs_chunk_base.specs.ArraySubset.{Box, IsBox, IsInside}
use Rattle.zarrs_chunk_base.specs.Dimension.{Dimension, InBox, array_sizes, grid_sizes}
use Rattle.zarrs_chunk_axes.specs.InBounds.{AreBelow}
use Rattle.zarrs_chunk_plan.specs.Region.{LiesIn}

-- the box of all elements of the array
abbrev pub array_box : List Dimension → Box
array_box ds = record { start = replicate (length ds) 0; shape = array_sizes ds }

-- the box of all chunk numbers that are counted
abbrev pub all_chunks_box : List Dimension → Box
all_chunks_box ds = record { start = replicate (length ds) 0; shape = grid_sizes ds }

-- the box has the elements of the array that the chunks of a box of chunk numbers hold
pub record AreElementsOf (ds : List Dimension) (chunks elements : Box) : Type 0 where
  pub is_box : IsBox elements
  pub lies : LiesIn elements (array_sizes ds)
  pub held : (index : List ℕ) → IsInside elements index ↔ (AreBelow (array_sizes ds) index × ((chunk : List ℕ) × IsInside chunks chunk × InBox ds chunk index))
