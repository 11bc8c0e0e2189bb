use Rattle.std.proofs.Common.{◌≡◌, ℕ, ◌-◌, ◌<◌, ◌≤◌, length, slice_index_or}
use Rattle.zarrs_chunk_parts.proofs.shared.distance.Given as goal

-- the dimensions so far hold the steps, the others still the index that they are counted from
abbrev pub invariant-loop-dimension : goal.invariant-loop-dimension
invariant-loop-dimension l =
    let before = l.initial.from.items in
    (length l.from.items ≡ length before)
    × ((k : ℕ) → k < l.dimension → slice_index_or l.from.items k 0 ≡ slice_index_or l.to k 0 - slice_index_or before k 0)
    × ((k : ℕ) → l.dimension ≤ k → slice_index_or l.from.items k 0 ≡ slice_index_or before k 0)
