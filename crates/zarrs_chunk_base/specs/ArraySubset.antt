-- A box of indices: for each dimension a range of whole numbers.
-- Source: Zarr V3 core, the shape of an array and the indices of its elements.
use Rattle.std.specs.Prelude.{◌≡◌, ℕ, ◌+◌, ◌-◌, ◌<◌, ◌≤◌, List, [], ◌∷◌, length, replicate}
use Rattle.std.specs.List.{Contains}
use Rattle.zarrs_chunk_base.specs.Greatest.{AllFit}

-- a box: for each dimension the first number, and how many there are
pub record Box : Type 0 where
  pub start : List ℕ
  pub shape : List ℕ

-- for each dimension the first number after the range
abbrev pub ends : List ℕ → List ℕ → List ℕ
ends (first ∷ start) (size ∷ shape) = (first + size) ∷ ends start shape
ends _ _ = []

-- for each dimension the last number of the range, where it holds any
abbrev pub lasts : List ℕ → List ℕ → List ℕ
lasts (first ∷ start) (size ∷ shape) = (first + (size - 1)) ∷ lasts start shape
lasts _ _ = []

-- as many starts as sizes, and no end is past the greatest number
pub record IsBox (b : Box) : Type 0 where
  pub lengths : length b.start ≡ length b.shape
  pub fits : AllFit (ends b.start b.shape)

-- some range holds no number
abbrev pub IsEmptyBox : Box → Type 0
IsEmptyBox b = Contains b.shape 0

-- in each dimension at least the start, and below the end
abbrev pub AreWithin : List ℕ → List ℕ → List ℕ → Type 0
AreWithin [] [] [] = Unit {0}
AreWithin (first ∷ start) (size ∷ shape) (i ∷ index) = (first ≤ i) × (i < first + size) × AreWithin start shape index
AreWithin _ _ _ = ⊥

-- the index lies in the box
abbrev pub IsInside : Box → List ℕ → Type 0
IsInside b index = AreWithin b.start b.shape index

-- so many ranges, each from 0 to 0
abbrev pub zero_box : ℕ → Box
zero_box n = record { start = replicate n 0; shape = replicate n 0 }
