-- The lists of numbers below a shape, one after another.
-- Source: Zarr V3 core, row-major ("C") order.
use Rattle.std.specs.Prelude.{◌≡◌, ◌⊎◌, ℕ, ◌<◌, List, [], ◌∷◌, length, map}
use Rattle.std.specs.List.{flat_map, range_with_len}

-- for each of `count` numbers from `first` on the lists that begin with it and go on as one of those given
abbrev pub rows : ℕ → ℕ → List (List ℕ) → List (List ℕ)
rows first count others = flat_map (λ n. map (λ numbers. n ∷ numbers) others) (range_with_len first count)

-- All lists below the shape: those that begin with 0, then those that begin with 1, and so on. Below the shape without
-- dimensions there is one, the list without numbers.
unfoldable pub row_major : List ℕ → List (List ℕ)
row_major [] = [] ∷ []
row_major (size ∷ shape) = rows 0 size (row_major shape)

-- one list comes before another of its length: at the first place where they differ its number is the lesser
abbrev pub IsBefore : List ℕ → List ℕ → Type 0
IsBefore (m ∷ one) (n ∷ other) = (m < n) ⊎ ((m ≡ n) × IsBefore one other)
IsBefore _ _ = ⊥

-- a list is to come that has more numbers than are kept without memory
abbrev pub NeedsMemory : List (List ℕ) → Type 0
NeedsMemory (numbers ∷ others) = 4 < length numbers
NeedsMemory [] = ⊥
