-- Dimensions that are made of array sizes and edges one by one are so all together.
use Rattle.std.specs.Prelude.{ℕ, List, [], ◌∷◌, map}
use Rattle.zarrs_chunk_base.specs.Dimension.{Dimension, InEach, array_sizes}
use Rattle.zarrs_chunk_base.specs.DimensionEdges.{DimensionEdges}

pub are_made : {A : Type 0} (dimension : A → Dimension) (edges : A → DimensionEdges) (is_made_of : Dimension → ℕ → DimensionEdges → Type 0)
    → ((a : A) → is_made_of (dimension a) (dimension a).array_size (edges a))
    → (axes : List A) → InEach is_made_of (map dimension axes) (array_sizes (map dimension axes)) (map edges axes)
are_made dimension edges is_made_of made [] = tt
are_made dimension edges is_made_of made (axis ∷ axes) = (made axis, are_made dimension edges is_made_of made axes)
