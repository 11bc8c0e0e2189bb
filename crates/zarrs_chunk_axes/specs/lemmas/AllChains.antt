-- Dimensions that are chains one by one are chains all together.
use Rattle.std.specs.Prelude.{List, [], ◌∷◌, map}
use Rattle.std.specs.List.{AllByRecursion}
use Rattle.zarrs_chunk_base.specs.Dimension.{Dimension, IsChain}

pub are_chains : {A : Type 0} (dimension : A → Dimension) → ((a : A) → IsChain (dimension a)) → (axes : List A)
    → AllByRecursion IsChain (map dimension axes)
are_chains dimension chain [] = tt
are_chains dimension chain (axis ∷ axes) = (chain axis, are_chains dimension chain axes)
