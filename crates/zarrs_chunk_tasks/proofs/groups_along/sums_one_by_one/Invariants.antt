use Rattle.zarrs_chunk_axes.specs.Along.{Along}
use Rattle.zarrs_chunk_tasks.specs.seen.Counts.{PartSum}
use Rattle.zarrs_chunk_tasks.proofs.groups_along.sums_one_by_one.Given as goal

-- the groups so far are counted
abbrev pub invariant-loop-steps : goal.invariant-loop-steps
invariant-loop-steps g l =
    Along (λ d. Along (λ s. PartSum l.groups l.before l.steps l.first d s l.sums) (g.G.ChunkGridTraits.dimensions l.other) l.groups.dimension)
    (g.K.ChunkGridTraits.dimensions l.groups.grid.now) l.groups.dimension
