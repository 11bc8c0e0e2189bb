-- Running sums, and the search in them.
use Rattle.std.specs.Prelude.{ℕ, ◌+◌, ◌*◌, ◌<◌, ◌≤◌, List, [], ◌∷◌, length, map, slice_index_or}

-- the sums so far, from a number on, one for each member
abbrev pub running : ℕ → List ℕ → List ℕ
running sum [] = []
running sum (n ∷ numbers) = (sum + n) ∷ running (sum + n) numbers

-- how many elements a run takes up
abbrev pub size_of : ℕ × ℕ → ℕ
size_of run = run.0 * run.1

-- how many chunks a run has
abbrev pub count_of_run : ℕ × ℕ → ℕ
count_of_run run = run.1

-- where each run ends: the sum of its edges and of those before
abbrev pub ends_of : List (ℕ × ℕ) → List ℕ
ends_of runs = running 0 (map size_of runs)

-- how many chunks there are up to the end of each run
abbrev pub chunk_ends_of : List (ℕ × ℕ) → List ℕ
chunk_ends_of runs = running 0 (map count_of_run runs)

-- the sums before the place aren't greater than the number, and the others are
pub record IsFirstAbove (sums : List ℕ) (sought place : ℕ) : Type 0 where
  pub bound : place ≤ length sums
  pub low : (k : ℕ) → k < place → slice_index_or sums k 0 ≤ sought
  pub high : (k : ℕ) → place ≤ k → k < length sums → sought < slice_index_or sums k 0
