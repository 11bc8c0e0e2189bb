use Rattle.std.proofs.Common.{◌≡◌, ℕ, ◌<◌, ◌≤◌, length, slice_index_or}
use Rattle.zarrs_chunk_parts.proofs.InPlace.{size_shared}
use Rattle.zarrs_chunk_parts.proofs.shared.sizes_shared.Given as goal

-- the dimensions so far hold how many indices are shared, the others still the first range's sizes
abbrev pub invariant-loop-dimension : goal.invariant-loop-dimension
invariant-loop-dimension l =
    let before = l.initial.sizes.items in
    (length l.sizes.items ≡ length before)
    × ((k : ℕ) → k < l.dimension → slice_index_or l.sizes.items k 0
    ≡ size_shared (slice_index_or l.start k 0) (slice_index_or before k 0) (slice_index_or l.other.start k 0) (slice_index_or l.other.shape k 0))
    × ((k : ℕ) → l.dimension ≤ k → slice_index_or l.sizes.items k 0 ≡ slice_index_or before k 0)
