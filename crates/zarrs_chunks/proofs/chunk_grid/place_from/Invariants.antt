use Rattle.std.proofs.Common.{◌≡◌, ℕ, ◌-◌, ◌<◌, ◌≤◌, length, slice_index_or}
use Rattle.zarrs_chunks.proofs.chunk_grid.place_from.Given as goal

-- the dimensions so far hold the difference, the others still the origin
abbrev pub invariant-loop-dimension : goal.invariant-loop-dimension
invariant-loop-dimension l =
    let before = l.initial.origin.items in
    (length l.origin.items ≡ length before)
    × ((k : ℕ) → k < l.dimension → slice_index_or l.origin.items k 0 ≡ slice_index_or l.indices k 0 - slice_index_or before k 0)
    × ((k : ℕ) → l.dimension ≤ k → slice_index_or l.origin.items k 0 ≡ slice_index_or before k 0)
