-- A choice of one size of groups for each dimension, and what it costs.
use Rattle.std.specs.Prelude.{◌≡◌, ℕ, ◌+◌, ◌*◌, ◌<◌, ◌≤◌, List, [], ◌∷◌, MatchOption, Option, None, Some, Vec, map, min, reverse}
use Rattle.std.specs.Int.NonZero.{non_zero_u64_get}
use Rattle.std.specs.List.{Contains}
use Rattle.std.specs.declared.alloc.Global.{Global}
use Rattle.zarrs_chunk_plan.specs.Counts.{product}
use Rattle.zarrs_chunk_tasks.specs.declared.choices.Choice.{Choice}
use Rattle.zarrs_chunk_tasks.specs.declared.sizes.Size.{Size}
use Rattle.zarrs_chunk_tasks.specs.Counts.{greatest_of_128}
use Rattle.zarrs_chunk_tasks.specs.seen.Sizes.{each_of}

-- rows, without where they lie in memory
abbrev pub rows_of : {T : Type 0} → List (Vec T Global) → List (List T)
rows_of {T} = map (λ (row : Vec T Global). row.items)

-- how many elements the largest buffer has
abbrev pub held : List Size → ℕ
held choice = product (map (λ (s : Size). s.largest) choice)

-- What a choice costs, if `read` chunks are read along the dimensions before, and `decoded` elements decoded. One read is worth `worth` elements.
abbrev pub cost_of : (worth read decoded : ℕ) → List Size → ℕ
cost_of worth read decoded choice =
    read * product (map (λ (s : Size). s.chunks) choice) * worth + decoded * product (map (λ (s : Size). s.elements) choice)

-- the same, up to the greatest number of 128 bits
abbrev pub capped_cost : (worth read decoded : ℕ) → List Size → ℕ
capped_cost worth read decoded choice = min greatest_of_128 (cost_of worth read decoded choice)

-- one size of each row
abbrev pub IsChoice : List (List Size) → List Size → Type 0
IsChoice [] [] = Unit {0}
IsChoice (row ∷ rows) (s ∷ choice) = Contains row s × IsChoice rows choice
IsChoice _ _ = ⊥

-- less than a bound, if there is one
abbrev pub IsBelow : Option ℕ → (cost : ℕ) → Type 0
IsBelow None cost = Unit {0}
IsBelow (Some most) cost = cost < most

-- The cheapest choice that fits, if it costs less than the bound. Its numbers begin with the last dimension's.
pub record IsCheapestChoice (rows : List (List Size)) (room worth read decoded : ℕ) (bound : Option ℕ) (each : List ℕ) (cost : ℕ) : Type 0 where
  pub choice : List Size
  pub is_choice : IsChoice rows choice
  pub are_each : each ≡ reverse (map each_of choice)
  pub fits : held choice ≤ room
  pub cost_is : cost ≡ capped_cost worth read decoded choice
  pub below : IsBelow bound cost
  pub least : (other : List Size) → IsChoice rows other → held other ≤ room → cost ≤ capped_cost worth read decoded other

-- what is found of some rows: such a choice, or none, if no choice that fits costs less than the bound
abbrev pub FindsCheapest : List (List Size) → (room worth read decoded : ℕ) → (bound : Option ℕ) → Option Choice → Type 0
FindsCheapest rows room worth read decoded bound found =
    MatchOption found
    ((choice : List Size) → IsChoice rows choice → held choice ≤ room → ¬ IsBelow bound (capped_cost worth read decoded choice))
    (λ (chosen : Choice). IsCheapestChoice rows room worth read decoded bound (map non_zero_u64_get chosen.each.items) chosen.cost)

-- the bound for what is looked for after a choice: its cost, if one is found
abbrev pub bound_after : (bound : Option ℕ) → Option Choice → Option ℕ
bound_after bound None = bound
bound_after _ (Some best) = Some best.cost

-- the first of two that are found
abbrev pub first_of : (found best : Option Choice) → Option Choice
first_of None best = best
first_of (Some found) _ = Some found
