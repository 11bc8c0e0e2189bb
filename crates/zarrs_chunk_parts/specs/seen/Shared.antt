-- How the elements that a chunk and a box share are found.
use Rattle.std.specs.Prelude.{ℕ, ◌+◌, ◌-◌, ◌<◌, ◌≤◌, List, map, max, min}
use Rattle.std.specs.List.{AllByRecursion, zip}
use Rattle.zarrs_chunk_axes.specs.InBounds.{AreBelow}
use Rattle.zarrs_chunk_base.specs.ArraySubset.{AreWithin, Box, IsInside}
use Rattle.zarrs_chunk_base.specs.Greatest.{greatest}

-- how far each number lies behind another, and 0 where it lies before
abbrev pub distances : List ℕ → List ℕ → List ℕ
distances from to = map (λ p. p.1 - p.0) (zip from to)

-- how many indices each range from an origin shares with one from a start, of the indices below the greatest number
abbrev pub shared_sizes : (origin edges start sizes : List ℕ) → List ℕ
shared_sizes origin edges start sizes =
    map (λ p. min (p.0.0 + p.0.1) (min (p.1.0 + p.1.1) greatest) - max p.0.0 p.1.0) (zip (zip origin edges) (zip start sizes))

-- the later of each two starts
abbrev pub later_starts : List ℕ → List ℕ → List ℕ
later_starts one other = map (λ p. max p.0 p.1) (zip one other)

-- so many indices from a first one on lie in a range, where they are some
pub record Reaches (first held start count : ℕ) : Type 0 where
  pub from : start ≤ first
  pub far : held ≤ count - (first - start)

-- in each dimension some index of the chunk, which begins at an origin and has these edges, is one of the array
abbrev pub HoldSome : (origin edges sizes : List ℕ) → Type 0
HoldSome origin edges sizes = AllByRecursion (λ p. 0 < min p.0.1 (p.1 - p.0.0)) (zip (zip origin edges) sizes)

-- the box has all elements of an array that the chunk holds
abbrev pub HoldsRest : Box → (origin edges sizes : List ℕ) → Type 0
HoldsRest b origin edges sizes = (index : List ℕ) → AreWithin origin edges index → AreBelow sizes index → IsInside b index
