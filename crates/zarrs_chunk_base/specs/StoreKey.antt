-- The key of a value in a store.
-- Source: Zarr V3 core, stores.
use Rattle.std.specs.Prelude.{◌≡◌, ℕ, List, [], ◌∷◌, ◌++◌}

-- the last byte is a slash
abbrev pub EndsInSlash : List ℕ → Type 0
EndsInSlash text = (front : List ℕ) × (text ≡ front ++ 47 ∷ [])
