-- How a count of comparisons grows while dimensions are searched.
use Rattle.std.specs.Prelude.{◌≡◌, ◌⊎◌, ℕ, ◌+◌, ◌≤◌, List, [], ◌∷◌}
use Rattle.zarrs_chunk_base.specs.Dimension.{Dimension, Holds}
use Rattle.zarrs_chunk_base.specs.DimensionEdges.{DimensionEdges}
use Rattle.zarrs_chunk_base.specs.Greatest.{greatest}
use Rattle.zarrs_chunk_axes.specs.Counted.{HasOneForEach, IsSearchBound}

-- one dimension is searched
pub record IsSearched (e : DimensionEdges) (before after : ℕ) : Type 0 where
  pub grows : before ≤ after
  pub at_most : (most : ℕ) → IsSearchBound e most → after ≤ before + most
  pub at_least : HasOneForEach (e ∷ []) before after
  pub stays : before ≡ greatest → after ≡ greatest

-- one after the other, up to the first that doesn't hold the index
abbrev pub AreSearched : List Dimension → List DimensionEdges → (index : List ℕ) → (before after : ℕ) → Type 0
AreSearched [] [] [] before after = before ≡ after
AreSearched (d ∷ ds) (e ∷ edges) (i ∷ index) before after =
    (between : ℕ) × IsSearched e before between
    × ((((c : ℕ) → ¬ Holds d c i) × (between ≡ after)) ⊎ ((c : ℕ) × Holds d c i × AreSearched ds edges index between after))
AreSearched _ _ _ before after = ⊥
