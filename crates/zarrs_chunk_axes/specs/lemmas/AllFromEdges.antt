-- Axes whose dimensions are those of their array sizes and edges one by one have them all together.
use Rattle.std.specs.Prelude.{◌≡◌, Bool, List, [], ◌∷◌, map, refl}
use Rattle.zarrs_chunk_base.specs.Dimension.{Dimension, array_sizes}
use Rattle.zarrs_chunk_base.specs.DimensionEdges.{DimensionEdges}
use Rattle.zarrs_chunk_axes.specs.seen.DimensionFrom.{dimension_from, dimensions_from}

module _ {A : Type 0} (dimension : A → Dimension) (edges : A → DimensionEdges) (bounded : Bool) where
  -- the dimension is that of the array size and the edges
  abbrev pub IsFromEdges : A → Type 0
  IsFromEdges axis = dimension axis ≡ dimension_from bounded (dimension axis).array_size (edges axis)

  pub are_from_edges : ((axis : A) → IsFromEdges axis) → (axes : List A)
      → map dimension axes ≡ dimensions_from bounded (array_sizes (map dimension axes)) (map edges axes)
  are_from_edges each [] = refl
  are_from_edges each (axis ∷ axes) = let first = each axis in let rest = are_from_edges each axes in cc
