-- Rows with fewer items.
use Rattle.std.specs.Prelude.{◌≡◌, List, ◌∷◌}
use Rattle.std.specs.List.{Contains}

-- some items of a row, and its first one, if it has one
pub record IsThinned {X : Type 0} (row part : List X) : Type 0 where
  pub among : (x : X) → Contains part x → Contains row x
  pub starts : (x : X) (others : List X) → row ≡ x ∷ others → (rest : List X) × (part ≡ x ∷ rest)
