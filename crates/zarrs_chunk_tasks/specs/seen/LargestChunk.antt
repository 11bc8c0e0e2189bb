-- The longest chunk along one dimension.
use Rattle.std.specs.Prelude.{◌≡◌, ℕ, ◌-◌, List, fold, map, max}
use Rattle.std.specs.List.{range_with_len}
use Rattle.zarrs_chunk_base.specs.Dimension.{Dimension}

-- how long each of `many` chunks is, from `first` on
abbrev pub edges_from : Dimension → (first many : ℕ) → List ℕ
edges_from d first many = map (λ c. d.end c - d.start c) (range_with_len first many)

-- the longest of them is so long; 0 without chunks
abbrev pub IsLongestOf : (first many edge : ℕ) → Dimension → Type 0
IsLongestOf first many edge d = edge ≡ fold max 0 (edges_from d first many)
