use Rattle.zarrs_chunk_axes.specs.Along.{Along}
use Rattle.zarrs_chunk_tasks.specs.seen.Sizes.{AreSizesTo, side_of}
use Rattle.zarrs_chunk_tasks.proofs.sizes.sizes_to.Given as goal

-- the sizes of the chunks so far are found
abbrev pub invariant-loop-before : goal.invariant-loop-before
invariant-loop-before g l =
    Along (λ d. Along (λ s. AreSizesTo (side_of l.range l.first d s) l.before l.sizes.items) (g.G.ChunkGridTraits.dimensions l.other) l.range.dimension)
    (g.K.ChunkGridTraits.dimensions l.range.grid.now) l.range.dimension
