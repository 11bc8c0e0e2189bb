use Rattle.std.proofs.Common.{◌≡◌, ◌-◌, ◌≤◌, IsTrue}
use Rattle.zarrs_chunk_axes.specs.Along.{Along}
use Rattle.zarrs_chunk_tasks.specs.seen.Sizes.{AreSizes, side_of}
use Rattle.zarrs_chunk_tasks.proofs.sizes.sizes_along.Given as goal

-- the sizes so far are those that are tried, and no number of chunks is more than there are
abbrev pub invariant-loop-last : goal.invariant-loop-last
invariant-loop-last g l =
    Along (λ d. Along (λ s. AreSizes l.are_all (side_of l.range l.first d s) l.sizes.items) (g.G.ChunkGridTraits.dimensions l.other) l.range.dimension)
    (g.K.ChunkGridTraits.dimensions l.range.grid.now) l.range.dimension
    × (l.last ≤ l.range.last) × (IsTrue l.are_all → l.last ≡ l.range.last)

-- how many numbers are left
abbrev pub decreases-loop-last : goal.decreases-loop-last
decreases-loop-last g l = l.range.last - l.last
