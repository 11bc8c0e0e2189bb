-- Running sums of edges.
use Rattle.std.specs.Prelude.{◌≡◌, ℕ, suc, ◌+◌, ◌-◌, ◌<◌, ◌≤◌, List, [], ◌∷◌, length, take}
use Rattle.std.specs.Coded.{le_prop}
use Rattle.std.specs.List.{sum}
use Rattle.std.proofs.lemmas.List.Sums.{sum_by-cons}

-- where each chunk ends, the first begins at a number
abbrev pub ends_from : ℕ → List ℕ → List ℕ
ends_from start [] = []
ends_from start (edge ∷ edges) = (start + edge) ∷ ends_from (start + edge) edges

-- each number is greater than the one before it, and the first than a start
abbrev pub Rises : ℕ → List ℕ → Type 0
Rises start [] = Unit {0}
Rises start (end ∷ ends) = (start < end) × Rises end ends

pub rises_once : (start : ℕ) (ends : List ℕ) → IsProp (Rises start ends)
rises_once start [] = hlevel
rises_once start (end ∷ ends) = let rest = rises_once end ends in hlevel (le_prop)

-- how far each number is after the one before it, and the first after a start: the edges of chunks that end there
abbrev pub edges_between : ℕ → List ℕ → List ℕ
edges_between start [] = []
edges_between start (end ∷ ends) = (end - start) ∷ edges_between end ends

-- the chunks below `first` end at the index or before it, and the others past it
pub record IsFirstPast (edges : List ℕ) (index first : ℕ) : Type 0 where
  pub bound : first ≤ length edges
  pub low : (c : ℕ) → c < first → sum (take (suc c) edges) ≤ index
  pub high : (c : ℕ) → first ≤ c → c < length edges → index < sum (take (suc c) edges)

-- a chunk's start and end, as running sums
pub record AreBounds (edges : List ℕ) (chunk : ℕ) (bounds : ℕ × ℕ) : Type 0 where
  pub counted : chunk < length edges
  pub start : bounds.0 ≡ sum (take chunk edges)
  pub end : bounds.1 ≡ sum (take (suc chunk) edges)

-- the first edge and what is summed behind it
pub sum_next : (edge : ℕ) (edges : List ℕ) → sum (edge ∷ edges) ≡ edge + sum edges
sum_next edge edges = sum_by-cons (λ x. x) edge edges

pub take_next : (edge : ℕ) (edges : List ℕ) (c : ℕ) → sum (take (suc c) (edge ∷ edges)) ≡ edge + sum (take c edges)
take_next edge edges c = sum_by-cons (λ x. x) edge (take c edges)
