use Rattle.std.proofs.Common.{◌≡◌, ℕ, ◌+◌, ◌-◌, ◌<◌, ◌≤◌, length, slice_index_or}
use Rattle.zarrs_chunks.proofs.chunk_grid.boxes.sizes_up_to.Given as goal

-- the dimensions so far hold the sizes from the starts on, the others still the sizes that were given
abbrev pub invariant-loop-dimension : goal.invariant-loop-dimension
invariant-loop-dimension l =
    let before = l.initial.sizes.items in
    (length l.sizes.items ≡ length before)
    × ((k : ℕ) → k < l.dimension
    → slice_index_or l.sizes.items k 0 ≡ slice_index_or l.last_start k 0 - slice_index_or l.start k 0 + slice_index_or before k 0)
    × ((k : ℕ) → l.dimension ≤ k → slice_index_or l.sizes.items k 0 ≡ slice_index_or before k 0)
