use Rattle.std.proofs.Common.{ℕ, ◌<◌, IfSome, IsTrue, List}
use Rattle.std.specs.declared.num.NonZeroU64.{NonZeroU64}
use Rattle.zarrs_chunk_tasks.specs.seen.Between.{AreChosen, AreExactBy, IsCompared, IsShapeAt}
use Rattle.zarrs_chunk_tasks.specs.seen.Choices.{rows_of}
use Rattle.zarrs_chunk_tasks.proofs.between.cheapest_between.Given as goal

-- the best two stages so far are chosen, the shapes so far are compared, and the best ones are exact if all are
abbrev pub invariant-loop-number : goal.invariant-loop-number
invariant-loop-number g l =
    IfSome l.compared.best (AreChosen (g.G.ChunkGridTraits.dimensions l.staged.source.now) (g.H.ChunkGridTraits.dimensions l.staged.target.now) l.staged.region.now
    l.staged.moved.now.start l.staged.max_elements l.staged.read_elements (rows_of l.edges))
    × ((n : ℕ) (shape : List NonZeroU64) → n < l.number → IsShapeAt (rows_of l.edges) n shape
    → IsCompared (g.G.ChunkGridTraits.dimensions l.staged.source.now) (g.H.ChunkGridTraits.dimensions l.staged.target.now) l.staged.region.now
    l.staged.moved.now.start l.staged.max_elements l.staged.read_elements l.compared shape)
    × (AreExactBy (g.G.ChunkGridTraits.dimensions l.staged.source.now) (g.H.ChunkGridTraits.dimensions l.staged.target.now) l.staged.region.now
    l.staged.moved.now.start l.staged.max_elements l.staged.read_elements (rows_of l.edges) → IsTrue l.compared.is_exact)
