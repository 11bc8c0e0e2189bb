-- How many chunks hold some of a range, and what a chunk holds of it, dimension by dimension.
use Rattle.std.specs.Prelude.{ℕ, zero, suc, ◌+◌, ◌-◌, ◌<◌, ◌≤◌, IsTrue, List, [], ◌∷◌, cond, map, max, min, nat_lt}
use Rattle.std.specs.List.{range_with_len}
use Rattle.zarrs_chunk_base.specs.ArraySubset.{Box}
use Rattle.zarrs_chunk_base.specs.Dimension.{Dimension}

-- the chunk that holds an index, looked for among so many from a first one on
abbrev pub home_from : Dimension → (many first index : ℕ) → ℕ
home_from d zero first index = first
home_from d (suc many) first index = cond (nat_lt index (d.end first)) first (home_from d many (suc first) index)

abbrev pub home : Dimension → ℕ → ℕ
home d index = home_from d index 0 index

-- how many chunks hold some of a range: from the one that holds its first index to the one that holds its last
unfoldable pub met : Dimension → (first size : ℕ) → ℕ
met d first size = suc (home d (first + (size - 1))) - home d first

-- the first index of a range from `at` on that a chunk holds, and how many of its `size` indices it holds
abbrev pub taken_from : Dimension → (at chunk : ℕ) → ℕ
taken_from d at chunk = max at (d.start chunk)

abbrev pub taken : Dimension → (at size chunk : ℕ) → ℕ
taken d at size chunk = min (d.end chunk) (at + size) - taken_from d at chunk

-- how many chunks of the source share elements with a chunk of the target, along one dimension: a range from `first` on goes to one from `at` on
abbrev pub met_along : (source target : Dimension) → (first at size chunk : ℕ) → ℕ
met_along source target first at size chunk = met source (first + (taken_from target at chunk - at)) (taken target at size chunk)

-- the chunk takes some of a range from `at` on
abbrev pub TakesSome : Dimension → (at size chunk : ℕ) → Type 0
TakesSome d at size chunk = IsTrue (d.has_chunk chunk) × (max at (d.start chunk) < min (d.end chunk) (at + size))

-- and so does each of `chunks` chunks from `first` on
abbrev pub RangeTakes : Dimension → (at size first chunks : ℕ) → Type 0
RangeTakes d at size first chunks = (chunk : ℕ) → first ≤ chunk → chunk < first + chunks → TakesSome d at size chunk

-- along each dimension, where a box goes to another
abbrev pub counters_from : (source target : List Dimension) → (first at shape : List ℕ) → List (ℕ → ℕ)
counters_from (s ∷ source) (t ∷ target) (f ∷ first) (a ∷ at) (n ∷ shape) = met_along s t f a n ∷ counters_from source target first at shape
counters_from _ _ _ _ _ = []

abbrev pub counters : (source target : List Dimension) → (region moved : Box) → List (ℕ → ℕ)
counters source target region moved = counters_from source target region.start moved.start moved.shape

-- the counts of one chunk
abbrev pub met_by : List (ℕ → ℕ) → List ℕ → List ℕ
met_by (f ∷ counters) (c ∷ chunk) = f c ∷ met_by counters chunk
met_by _ _ = []

-- for each dimension those of the chunks of a range
abbrev pub met_in : List (ℕ → ℕ) → (first sizes : List ℕ) → List (List ℕ)
met_in (f ∷ counters) (a ∷ first) (n ∷ sizes) = map f (range_with_len a n) ∷ met_in counters first sizes
met_in _ _ _ = []

-- the elements of a box of the array that a chunk holds, as a box of the array
abbrev pub taken_starts : List Dimension → (at chunk : List ℕ) → List ℕ
taken_starts (d ∷ ds) (a ∷ at) (c ∷ chunk) = taken_from d a c ∷ taken_starts ds at chunk
taken_starts _ _ _ = []

abbrev pub taken_sizes : List Dimension → (at shape chunk : List ℕ) → List ℕ
taken_sizes (d ∷ ds) (a ∷ at) (n ∷ shape) (c ∷ chunk) = taken d a n c ∷ taken_sizes ds at shape chunk
taken_sizes _ _ _ _ = []

abbrev pub taken_box : List Dimension → Box → List ℕ → Box
taken_box ds b chunk = record { start = taken_starts ds b.start chunk; shape = taken_sizes ds b.start b.shape chunk }
