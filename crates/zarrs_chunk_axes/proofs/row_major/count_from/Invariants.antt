use Rattle.std.proofs.Common.{◌≡◌, ℕ, ◌+◌, ◌<◌, ◌≤◌, length, slice_index_or}
use Rattle.zarrs_chunk_axes.proofs.row_major.count_from.Given as goal

-- the dimensions so far hold the sum, the others still the numbers that were given
abbrev pub invariant-loop-dimension : goal.invariant-loop-dimension
invariant-loop-dimension l =
    let before = l.initial.numbers in
    (length l.numbers ≡ length before)
    × ((k : ℕ) → k < l.dimension → slice_index_or l.numbers k 0 ≡ slice_index_or l.start k 0 + slice_index_or before k 0)
    × ((k : ℕ) → l.dimension ≤ k → slice_index_or l.numbers k 0 ≡ slice_index_or before k 0)
