-- The lists below a shape from one on up to another.
use Rattle.std.specs.Prelude.{◌≡◌, ℕ, ◌+◌, ◌*◌, ◌/◌, ◌%◌, Bool, true, false, List, [], ◌∷◌, length, Option, Some, None, MatchOption}
use Rattle.smallvec.specs.SmallVec.{SmallVec}
use Rattle.zarrs_chunk_axes.specs.RowMajor.{row_major}
use Rattle.zarrs_chunk_plan.specs.Shares.{between}

-- how many lists below a shape come before this one
abbrev pub rank : List ℕ → List ℕ → ℕ
rank (size ∷ shape) (n ∷ numbers) = n * length (row_major shape) + rank shape numbers
rank _ _ = 0

-- the list below a shape before which so many of `of` parts of all lists come, rounded down
abbrev pub digits : List ℕ → (part of : ℕ) → List ℕ
digits [] part of = []
digits (size ∷ shape) part of = (part * size / of) ∷ digits shape (part * size % of) of

-- how many lists come before the end
abbrev pub end_rank : List ℕ → Option (SmallVec ℕ) → ℕ
end_rank shape None = length (row_major shape)
end_rank shape (Some end) = rank shape end.items

-- the walk ends before these numbers
abbrev pub IsEnd : Option (SmallVec ℕ) → List ℕ → Type 0
IsEnd end numbers = MatchOption end ⊥ (λ end. end.items ≡ numbers)

-- the lists from these numbers on up to the end, and none where the walk is over
abbrev pub lists_between : List ℕ → List ℕ → Option (SmallVec ℕ) → Bool → List (List ℕ)
lists_between shape numbers end false = between (rank shape numbers) (end_rank shape end) (row_major shape)
lists_between shape numbers end true = []
