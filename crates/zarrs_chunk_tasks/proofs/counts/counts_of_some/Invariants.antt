use Rattle.zarrs_chunk_tasks.proofs.GroupCounts.{RowsSoFar}
use Rattle.zarrs_chunk_tasks.proofs.counts.counts_of_some.Given as goal

-- the dimensions so far are counted
abbrev pub invariant-loop-dimension : goal.invariant-loop-dimension
invariant-loop-dimension g l =
    RowsSoFar (g.G.ChunkGridTraits.dimensions l.copied.source.now) (g.H.ChunkGridTraits.dimensions l.copied.target.now)
    (g.K.ChunkGridTraits.dimensions l.grouped.grid.now) l.grouped.each.now l.grouped.elements.now l.grouped.groups l.copied.first.now l.copied.at.now
    l.dimension l.counts.items
