-- Edges of chunks as runs of equal ones.
-- Source: the `rectilinear` extension of zarr-extensions.
use Rattle.std.specs.Prelude.{◌≡◌, ◌≢◌, ℕ, ◌+◌, ◌<◌, ◌≤◌, List, [], length, replicate, slice_index_or, take}
use Rattle.std.specs.List.{flat_map, sum}
use Rattle.std.specs.Int.NonZero.{non_zero_u64_get}
use Rattle.std.specs.declared.num.NonZeroU64.{NonZeroU64}
use Rattle.zarrs_chunk_base.specs.Greatest.{greatest}
use Rattle.zarrs_chunk_base.specs.RunLength.{expansion}
use Rattle.zarrs_chunk_base.specs.declared.run_length_element.RunLengthElement.{RunLengthElement}
use Rattle.zarrs_chunk_runs.specs.declared.run_edges_error.RunEdgesError.{RunEdgesError}
use Rattle.zarrs_chunk_runs.specs.declared.run_edges_error.RunEdgesError.TheVariants.{NoElements, SumTooLarge}

-- a run as numbers: an edge, and how many chunks in a row have it
abbrev pub run_of : NonZeroU64 × NonZeroU64 → ℕ × ℕ
run_of run = (non_zero_u64_get run.0, non_zero_u64_get run.1)

-- the edges that a run stands for, one for each chunk
abbrev pub edges_of_run : ℕ × ℕ → List ℕ
edges_of_run run = replicate run.1 run.0

-- the edges that runs stand for, joined in order
abbrev pub edges_of_runs : List (ℕ × ℕ) → List ℕ
edges_of_runs = flat_map edges_of_run

-- no two runs that stand side by side have the same edge
abbrev pub AreMerged : List (ℕ × ℕ) → Type 0
AreMerged runs = (k : ℕ) → k + 1 < length runs → (slice_index_or runs k (0, 0)).0 ≢ (slice_index_or runs (k + 1) (0, 0)).0

-- among chunks with these edges, the index i lies in chunk c
pub record IsChunkOf (edges : List ℕ) (i c : ℕ) : Type 0 where
  pub chunk : c < length edges
  pub from : sum (take c edges) ≤ i
  pub below : i < sum (take (c + 1) edges)

-- chunk c lies in run k
pub record IsRunOf (runs : List (ℕ × ℕ)) (c k : ℕ) : Type 0 where
  pub run : k < length runs
  pub from : length (edges_of_runs (take k runs)) ≤ c
  pub below : c < length (edges_of_runs (take (k + 1) runs))

-- elements are accepted: there are some, and the sum of their edges is at most the greatest number
pub record AreAccepted (elements : List RunLengthElement) : Type 0 where
  pub some : elements ≢ []
  pub fits : sum (expansion elements) ≤ greatest

-- why elements are refused: there are none; or there are some, and the sum of their edges is too large
abbrev pub IsRunEdgesFault : List RunLengthElement → RunEdgesError → Type 0
IsRunEdgesFault elements NoElements = elements ≡ []
IsRunEdgesFault elements SumTooLarge = (elements ≢ []) × (greatest < sum (expansion elements))
