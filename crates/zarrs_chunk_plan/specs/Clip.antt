-- A box of elements without those that the array doesn't have.
-- Source: Zarr V3 core, the shape of an array and the indices of its elements; the clipped box is this library's own.
use Rattle.std.specs.Prelude.{◌≡◌, ◌↔◌, ℕ, ◌+◌, ◌-◌, List, [], ◌∷◌, min}
use Rattle.zarrs_chunk_base.specs.ArraySubset.{Box, IsBox, IsInside}
use Rattle.zarrs_chunk_base.specs.Dimension.{Dimension, array_sizes}
use Rattle.zarrs_chunk_axes.specs.InBounds.{AreBelow}

-- along each dimension, how many of the indices of a range are below the size of the array
abbrev pub sizes_below : (sizes start shape : List ℕ) → List ℕ
sizes_below (size ∷ sizes) (first ∷ start) (count ∷ shape) = (min (first + count) size - first) ∷ sizes_below sizes start shape
sizes_below _ _ _ = []

-- The box begins where the other one does, and has of its elements those of the array. An empty one has the shape of what is left along each dimension.
pub record IsClipped (ds : List Dimension) (b clipped : Box) : Type 0 where
  pub is_box : IsBox clipped
  pub start : clipped.start ≡ b.start
  pub shape : clipped.shape ≡ sizes_below (array_sizes ds) b.start b.shape
  pub elements : (index : List ℕ) → IsInside clipped index ↔ (IsInside b index × AreBelow (array_sizes ds) index)
