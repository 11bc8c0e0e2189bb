-- That numbers are below sizes is a fact: it has no more than one value.
use Rattle.std.specs.Prelude.{ℕ, ◌<◌, List}
use Rattle.std.specs.Coded.{le_prop}
use Rattle.zarrs_chunk_axes.specs.InBounds.{AreBelow}
use Rattle.zarrs_chunk_axes.specs.lemmas.AcceptedOnce.{all_once}

are_below_once : (shape numbers : List ℕ) → IsProp (AreBelow shape numbers)
are_below_once = all_once (λ size n. n < size) (λ size n. hlevel (le_prop))

-- also where they are so under a condition
pub are_below_if_once : {P : Type 0} → (shape numbers : List ℕ) → IsProp (P → AreBelow shape numbers)
are_below_if_once shape numbers = let once = are_below_once shape numbers in hlevel
