-- The numbers of listed edges, as runs of equal ones.
use Rattle.std.specs.Prelude.{◌≡◌, ◌≢◌, ℕ, ◌<◌, ◌≤◌, Bool, true, false, List, [], length, slice_index_or, take}
use Rattle.std.specs.List.{sum}
use Rattle.zarrs_chunk_axes.specs.Bounded.{IsBoundedBy}
use Rattle.zarrs_chunk_axes.specs.EqualOrListed.{IsEqualOrListed}
use Rattle.zarrs_chunk_base.specs.Dimension.{Dimension}
use Rattle.zarrs_chunk_base.specs.DimensionEdges.{DimensionEdges, equal, listed}
use Rattle.zarrs_chunk_base.specs.Greatest.{greatest}
use Rattle.zarrs_chunk_runs.specs.Runs.{edges_of_runs}

-- of so many runs, where each begins, with which chunk, and its edge
pub record IsRunTable (runs : List (ℕ × ℕ)) (count : ℕ) (starts chunks edges : List ℕ) : Type 0 where
  pub starts_long : length starts ≡ count
  pub chunks_long : length chunks ≡ count
  pub edges_long : length edges ≡ count
  pub is_start : (k : ℕ) → k < count → slice_index_or starts k 0 ≡ sum (edges_of_runs (take k runs))
  pub is_chunk : (k : ℕ) → k < count → slice_index_or chunks k 0 ≡ length (edges_of_runs (take k runs))
  pub is_edge : (k : ℕ) → k < count → slice_index_or edges k 0 ≡ (slice_index_or runs k (0, 0)).0

-- a dimension of an array size and edges, by whether chunks of one edge end with the array
abbrev pub IsCut : Bool → Dimension → ℕ → DimensionEdges → Type 0
IsCut true = IsBoundedBy
IsCut false = IsEqualOrListed

-- listed edges are some, and their sum is at most the greatest number
abbrev pub HaveSum : DimensionEdges → Type 0
HaveSum (equal edge) = Unit {0}
HaveSum (listed edges) = (edges ≢ []) × (sum edges ≤ greatest)
