use Rattle.zarrs_chunk_plan.proofs.Common.{◌≡◌, ◌<◌, ◌≤◌, ℕ, length, min, slice_index_or}
use Rattle.zarrs_chunk_plan.specs.seen.Used.{KeepsAlong}
use Rattle.zarrs_chunk_plan.proofs.resize.used.kept_along.Given as goal

-- so it is along the dimensions so far
abbrev pub invariant-loop-dimension : goal.invariant-loop-dimension
invariant-loop-dimension g l =
    let both = λ (k : ℕ). min (slice_index_or l.used_before k 0) (slice_index_or l.used_after k 0) in
    (length l.kept.items ≡ l.dimension)
    × ((k : ℕ) → k < l.dimension → slice_index_or l.kept.items k 0 ≤ both k)
    × ((k : ℕ) → k < l.dimension → 0 < both k
    → KeepsAlong (g.G.ChunkGridTraits.dimensions l.before) (g.H.ChunkGridTraits.dimensions l.after) k (both k) (slice_index_or l.kept.items k 0))
