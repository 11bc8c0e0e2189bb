use Rattle.std.proofs.Common.{take}
use Rattle.std.specs.List.{AllZip}
use Rattle.zarrs_chunk_tasks.specs.seen.Choices.{rows_of}
use Rattle.zarrs_chunk_tasks.specs.seen.Sizes.{AreSizes, sides}
use Rattle.zarrs_chunk_tasks.proofs.tried.sizes_of_each.Given as goal

-- there are the sizes of each dimension so far
abbrev pub invariant-loop-dimension : goal.invariant-loop-dimension
invariant-loop-dimension g l =
    AllZip (AreSizes l.are_all)
    (take l.dimension (sides (g.G.ChunkGridTraits.dimensions l.copied.source.now) (g.H.ChunkGridTraits.dimensions l.copied.target.now) l.copied.first.now
    l.grouped.elements.now.start l.grouped.elements.now.shape l.grouped.cover.start l.grouped.last.items))
    (rows_of l.rows.items)
