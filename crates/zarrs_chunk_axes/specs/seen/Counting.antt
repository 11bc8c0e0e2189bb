-- Where a count through the lists below a shape stands, and what a step leaves.
use Rattle.std.specs.Prelude.{◌≡◌, ℕ, zero, suc, ◌+◌, ◌-◌, ◌<◌, ◌≤◌, Bool, true, false, List, [], ◌∷◌, ◌++◌, length, map, slice_index_or}
use Rattle.std.specs.List.{AllByRecursion, AllZip}
use Rattle.zarrs_chunk_axes.specs.RowMajor.{row_major, rows}

-- the lists below a shape that come after one of them
unfoldable pub after : List ℕ → List ℕ → List (List ℕ)
after (size ∷ shape) (n ∷ numbers) = map (λ others. n ∷ others) (after shape numbers) ++ rows (n + 1) (size - (n + 1)) (row_major shape)
after _ _ = []

-- a list and those after it, or none where there is none
abbrev pub from : Bool → List ℕ → List ℕ → List (List ℕ)
from true shape numbers = numbers ∷ after shape numbers
from false shape numbers = []

-- none of the numbers from one place up to another can be raised and stay below its size
abbrev pub AreFull : List ℕ → List ℕ → ℕ → ℕ → Type 0
AreFull shape numbers first end = (k : ℕ) → first ≤ k → k < end → slice_index_or shape k 0 ≤ slice_index_or numbers k 0 + 1

-- the place is the last one before an end at which the number can be raised
pub record IsRaisable (shape numbers : List ℕ) (end k : ℕ) : Type 0 where
  pub before : k < end
  pub below : slice_index_or numbers k 0 + 1 < slice_index_or shape k 0
  pub last : AreFull shape numbers (k + 1) end

-- the list with the number at a place raised by one and 0 at the places after
abbrev pub raised : ℕ → List ℕ → List ℕ
raised k [] = []
raised zero (n ∷ numbers) = (n + 1) ∷ map (λ _. 0) numbers
raised (suc k) (n ∷ numbers) = n ∷ raised k numbers

-- no number is below that of the other list
abbrev pub AreAtLeast : List ℕ → List ℕ → Type 0
AreAtLeast = AllZip (λ low n. low ≤ n)

-- Of a list and those after it the first ones, which a step passes over, have no number below its own. The rest is left, which is less.
pub record IsPassed (shape numbers : List ℕ) (left : List (List ℕ)) (passed : List (List ℕ)) : Type 0 where
  pub all : numbers ∷ after shape numbers ≡ passed ++ left
  pub at_least : AllByRecursion (AreAtLeast numbers) passed
  pub some : 0 < length passed
