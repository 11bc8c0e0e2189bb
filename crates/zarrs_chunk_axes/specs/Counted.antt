-- How often look-ups compare in dimensions whose listed edges are kept as runs.
use Rattle.std.specs.Prelude.{◌≡◌, ℕ, ◌+◌, ◌≤◌, List, [], ◌∷◌, Option, Some, None, min, take}
use Rattle.std.specs.List.{AllZip, sum}
use Rattle.zarrs_chunk_base.specs.Dimension.{Dimension, InBox}
use Rattle.zarrs_chunk_base.specs.DimensionEdges.{DimensionEdges, equal, listed}
use Rattle.zarrs_chunk_base.specs.Greatest.{greatest}
use Rattle.zarrs_chunk_runs.specs.Forms.{HasRuns}
use Rattle.zarrs_chunk_runs.specs.Search.{HasDigits}

-- How many runs a dimension has: those of its listed edges. Where one edge is that of all chunks, or there is no such dimension, none are told.
abbrev pub TellsRuns : Option DimensionEdges → Option ℕ → Type 0
TellsRuns (Some (listed edges)) (Some runs) = HasRuns edges runs
TellsRuns (Some (listed edges)) None = ⊥
TellsRuns _ (Some runs) = ⊥
TellsRuns _ None = Unit {0}

-- the most comparisons of a search in one dimension: the binary digits of the number of its runs; 0 where one edge is that of all chunks
abbrev pub IsSearchBound : DimensionEdges → ℕ → Type 0
IsSearchBound (equal edge) most = most ≡ 0
IsSearchBound (listed edges) most = (runs : ℕ) × HasRuns edges runs × HasDigits runs most

-- how many dimensions have listed edges
abbrev pub listed_dimensions : List DimensionEdges → ℕ
listed_dimensions [] = 0
listed_dimensions (equal edge ∷ all) = listed_dimensions all
listed_dimensions (listed edges ∷ all) = listed_dimensions all + 1

-- A count before and after a look-up: it doesn't fall, and grows at most by the bounds of all dimensions, added up. At its end, the greatest
-- number, it stays.
pub record AreCounted (edges : List DimensionEdges) (before after : ℕ) : Type 0 where
  pub grows : before ≤ after
  pub at_most : (most : List ℕ) → AllZip IsSearchBound edges most → after ≤ before + sum most
  pub stays : before ≡ greatest → after ≡ greatest

-- it grows at least by as many as there are dimensions of listed edges, up to the greatest number
abbrev pub HasOneForEach : List DimensionEdges → ℕ → ℕ → Type 0
HasOneForEach edges before after = min (before + listed_dimensions edges) greatest ≤ after

-- A look-up searches one dimension after the other, up to the first that doesn't hold the index. If the first n hold it, these and the next were
-- searched: of them, each of listed edges adds one at least, up to the greatest number. If they don't, no later one was searched.
pub record AreSearchedInOrder (ds : List Dimension) (edges : List DimensionEdges) (index : List ℕ) (before after : ℕ) : Type 0 where
  pub at_least : (n : ℕ) (chunk : List ℕ) → InBox (take n ds) chunk (take n index) → HasOneForEach (take (n + 1) edges) before after
  pub at_most : (n : ℕ) → ((chunk : List ℕ) → ¬ InBox (take n ds) chunk (take n index)) → AreCounted (take n edges) before after
