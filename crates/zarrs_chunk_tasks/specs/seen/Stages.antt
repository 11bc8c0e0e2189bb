-- One stage or two, as one.
use Rattle.std.specs.Prelude.{◌≡◌, ◌<◌, ◌≤◌, ◌⊎◌, ◌&&◌, Bool, [], ◌∷◌, MatchOption, Option, None, Some}
use Rattle.zarrs_chunk_tasks.specs.Counts.{greatest_of_128}
use Rattle.zarrs_chunk_tasks.specs.declared.between.TwoStages.{TwoStages}
use Rattle.zarrs_chunk_tasks.specs.declared.cheapest.CheapestTasks.{CheapestTasks}
use Rattle.zarrs_chunk_tasks.specs.declared.stages.CheapestStages.{CheapestStages}
use Rattle.zarrs_chunk_tasks.specs.seen.Between.{cost_of_both}

-- stages of one stage; `is_exact` says whether no others are cheaper
pub record IsOfOne (one : CheapestTasks) (is_exact : Bool) (stages : CheapestStages) : Type 0 where
  pub no_chunks : stages.chunks.items ≡ []
  pub tasks : stages.tasks.items ≡ one ∷ []
  pub cost : stages.cost ≡ one.cost
  pub fits : one.cost ≤ greatest_of_128
  pub exact : stages.is_exact ≡ (is_exact && one.is_exact)

-- of two
pub record IsOfTwo (two : TwoStages) (is_exact : Bool) (stages : CheapestStages) : Type 0 where
  pub chunks : stages.chunks.items ≡ two.chunks ∷ []
  pub tasks : stages.tasks.items ≡ two.first ∷ two.second ∷ []
  pub cost : stages.cost ≡ cost_of_both two
  pub exact : stages.is_exact ≡ is_exact

-- the cheaper ones of both, or those that are there
abbrev pub IsTheCheaper : (one : Option CheapestTasks) (two : Option TwoStages) (is_exact : Bool) (found : Option CheapestStages) → Type 0
IsTheCheaper None None is_exact found = found ≡ None
IsTheCheaper (Some one) None is_exact found = MatchOption found ⊥ (IsOfOne one is_exact)
IsTheCheaper None (Some two) is_exact found = MatchOption found ⊥ (IsOfTwo two is_exact)
IsTheCheaper (Some one) (Some two) is_exact found =
    MatchOption found ⊥ (λ stages. (IsOfOne one is_exact stages × (one.cost ≤ cost_of_both two))
    ⊎ (IsOfTwo two (is_exact && one.is_exact) stages × (cost_of_both two < one.cost)))
