-- Where a run begins.
use Rattle.std.specs.Prelude.{◌≡◌, ◌≤◌, ℕ, ◌+◌, ◌*◌, List, length, slice_index_or, take}
use Rattle.std.specs.List.{sum}
use Rattle.std.specs.Int.NonZero.{non_zero_u64_get}
use Rattle.zarrs_chunk_base.specs.Greatest.{greatest}
use Rattle.zarrs_chunk_runs.specs.Runs.{edges_of_runs}
use Rattle.zarrs_chunk_runs.specs.declared.run_edges.Place.{Place}

-- the edge of run k, how many chunks there are before it, and the sum of their edges
pub record IsPlaceOf (runs : List (ℕ × ℕ)) (k : ℕ) (place : Place) : Type 0 where
  pub edge : non_zero_u64_get place.edge ≡ (slice_index_or runs k (0, 0)).0
  pub first : place.first ≡ length (edges_of_runs (take k runs))
  pub start : place.start ≡ sum (edges_of_runs (take k runs))
  -- its chunks and its elements end at the greatest number or before
  pub counted : place.first + (slice_index_or runs k (0, 0)).1 ≤ greatest
  pub fits : place.start + (slice_index_or runs k (0, 0)).0 * (slice_index_or runs k (0, 0)).1 ≤ greatest
