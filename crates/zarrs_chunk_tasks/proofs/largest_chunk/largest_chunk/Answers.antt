use Rattle.std.proofs.Common.{inl, refl, subst}
use Rattle.zarrs_chunks.specs.Subsets.{AnswersCover}
use Rattle.zarrs_chunk_tasks.proofs.LargestChunk.{can_be, is_largest, one_more}
use Rattle.zarrs_chunk_tasks.proofs.largest_chunk.largest_chunk.Goals as goal

pub loop-dimension-init : goal.loop-dimension-init
loop-dimension-init g c = refl

pub longest_along-requires-clause-fits : goal.longest_along-requires-clause-fits
longest_along-requires-clause-fits g c =
    let ds = g.G.ChunkGridTraits.dimensions c.args.grid.now in
    let elements = c.args.elements.now in
    let (_, is) = subst (AnswersCover ds elements) (c.in_ok-cover.ensures {u = tt}) (c.chunks_in_array_subset.ensures.answers (inl c.requires.some)) in
    let can = can_be ds elements c.in_ok-cover.cover (g.met.G.ChunkGridTraits.chained c.args.grid.now) c.is_a_box.ensures c.requires.some c.requires.lies is
    c.loop-dimension.dimension (rw c.start-first.ensures.value at c.loop-dimension-test.true)
    in
    rw (c.start-first.ensures.value, c.shape-many.ensures.value) can.0

pub longest_along-requires-clause-last : goal.longest_along-requires-clause-last
longest_along-requires-clause-last g c =
    let ds = g.G.ChunkGridTraits.dimensions c.args.grid.now in
    let elements = c.args.elements.now in
    let (_, is) = subst (AnswersCover ds elements) (c.in_ok-cover.ensures {u = tt}) (c.chunks_in_array_subset.ensures.answers (inl c.requires.some)) in
    let can = can_be ds elements c.in_ok-cover.cover (g.met.G.ChunkGridTraits.chained c.args.grid.now) c.is_a_box.ensures c.requires.some c.requires.lies is
    c.loop-dimension.dimension (rw c.start-first.ensures.value at c.loop-dimension-test.true)
    in
    rw (c.start-first.ensures.value, c.shape-many.ensures.value) can.1

pub loop-dimension-preserved : goal.loop-dimension-preserved
loop-dimension-preserved g c =
    let ds = g.G.ChunkGridTraits.dimensions c.args.grid.now in
    let elements = c.args.elements.now in
    let (_, is) = subst (AnswersCover ds elements) (c.in_ok-cover.ensures {u = tt}) (c.chunks_in_array_subset.ensures.answers (inl c.requires.some)) in
    rw (c.start-first.ensures.value, c.shape-many.ensures.value)
    (one_more ds elements c.in_ok-cover.cover (g.met.G.ChunkGridTraits.chained c.args.grid.now) c.is_a_box.ensures c.requires.some c.requires.lies is
    c.loop-dimension.dimension c.loop-dimension.largest c.in_ok-edge.edge _ (rw c.start-first.ensures.value at c.loop-dimension-test.true)
    (rw (c.start-first.ensures.value, c.shape-many.ensures.value) at c.loop-dimension.invariant)
    (rw (c.start-first.ensures.value, c.shape-many.ensures.value) at (c.in_ok-edge.ensures {u = tt})) c.saturating_mul-largest.ensures)

pub returns : goal.returns
returns g c =
    let ds = g.G.ChunkGridTraits.dimensions c.args.grid.now in
    let elements = c.args.elements.now in
    let (_, is) = subst (AnswersCover ds elements) (c.in_ok-cover.ensures {u = tt}) (c.chunks_in_array_subset.ensures.answers (inl c.requires.some)) in
    is_largest ds elements c.in_ok-cover.cover (g.met.G.ChunkGridTraits.chained c.args.grid.now) c.is_a_box.ensures c.requires.some c.requires.lies is
    c.loop-dimension.dimension c.loop-dimension.largest (rw c.start-first.ensures.value at c.loop-dimension-test.false)
    (rw (c.start-first.ensures.value, c.shape-many.ensures.value) at c.loop-dimension.invariant)
