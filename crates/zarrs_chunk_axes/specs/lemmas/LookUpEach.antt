-- What is found where each number of a list is looked up in its dimension.
use Rattle.std.specs.Prelude.{◌≡◌, ◌⊎◌, ℕ, List, ◌∷◌, map}
use Rattle.zarrs_chunk_base.specs.Dimension.{Dimension, Holds, InEach}

-- for one of the numbers there is nothing to find
abbrev pub SomeMisses : (Dimension → ℕ → Type 0) → List Dimension → List ℕ → Type 0
SomeMisses misses (d ∷ ds) (n ∷ numbers) = misses d n ⊎ SomeMisses misses ds numbers
SomeMisses misses _ _ = ⊥

-- no chunk of the dimension holds the index
abbrev pub LiesInNone : Dimension → ℕ → Type 0
LiesInNone d i = (c : ℕ) → ¬ Holds d c i

-- what was found, where each look-up finds two numbers: the first ones and the second ones
pub record AreFound (finds : Dimension → ℕ → ℕ × ℕ → Type 0) (ds : List Dimension) (numbers firsts seconds : List ℕ) : Type 0 where
  pub pairs : List (ℕ × ℕ)
  pub each : InEach finds ds numbers pairs
  pub firsts_are : firsts ≡ map (λ pair. pair.0) pairs
  pub seconds_are : seconds ≡ map (λ pair. pair.1) pairs
