use Rattle.std.proofs.Common.{inl, subst}
use Rattle.zarrs_chunks.specs.Subsets.{AnswersCover}
use Rattle.zarrs_chunk_tasks.proofs.LargestChunk.{can_be}
use Rattle.zarrs_chunk_tasks.proofs.TriedEdges.{are_longest, as_many_longest, each_longest, one_more}
use Rattle.zarrs_chunk_tasks.proofs.edges.longest_edges.Goals as goal

pub longest_along-requires-clause-fits : goal.longest_along-requires-clause-fits
longest_along-requires-clause-fits g c =
    let ds = g.G.ChunkGridTraits.dimensions c.args.grid.now in
    let elements = c.args.elements.now in
    let (_, is) = subst (AnswersCover ds elements) (c.in_ok-cover.ensures {u = tt}) (c.chunks_in_array_subset.ensures.answers (inl c.requires.some)) in
    let can = can_be ds elements c.in_ok-cover.cover (g.met.G.ChunkGridTraits.chained c.args.grid.now) c.is_a_box.ensures c.requires.some c.requires.lies is
    c.loop-dimension.dimension (rw c.start-first.ensures.value at c.loop-dimension-test.true)
    in
    rw (c.start-first.ensures.value, c.shape-many.ensures.value) can.0

pub longest_along-requires-clause-last : goal.longest_along-requires-clause-last
longest_along-requires-clause-last g c =
    let ds = g.G.ChunkGridTraits.dimensions c.args.grid.now in
    let elements = c.args.elements.now in
    let (_, is) = subst (AnswersCover ds elements) (c.in_ok-cover.ensures {u = tt}) (c.chunks_in_array_subset.ensures.answers (inl c.requires.some)) in
    let can = can_be ds elements c.in_ok-cover.cover (g.met.G.ChunkGridTraits.chained c.args.grid.now) c.is_a_box.ensures c.requires.some c.requires.lies is
    c.loop-dimension.dimension (rw c.start-first.ensures.value at c.loop-dimension-test.true)
    in
    rw (c.start-first.ensures.value, c.shape-many.ensures.value) can.1

pub loop-dimension-preserved : goal.loop-dimension-preserved
loop-dimension-preserved g c =
    let ds = g.G.ChunkGridTraits.dimensions c.args.grid.now in
    let elements = c.args.elements.now in
    let (_, is) = subst (AnswersCover ds elements) (c.in_ok-cover.ensures {u = tt}) (c.chunks_in_array_subset.ensures.answers (inl c.requires.some)) in
    rw (c.start-first.ensures.value, c.shape-many.ensures.value)
    (one_more ds elements c.in_ok-cover.cover (g.met.G.ChunkGridTraits.chained c.args.grid.now) c.is_a_box.ensures c.requires.some is
    c.loop-dimension.dimension c.in_ok-longest_along.field-0 c.loop-dimension.edges.items _ (rw c.start-first.ensures.value at c.loop-dimension-test.true)
    (rw (c.start-first.ensures.value, c.shape-many.ensures.value) at c.loop-dimension.invariant)
    (rw (c.start-first.ensures.value, c.shape-many.ensures.value) at (c.in_ok-longest_along.ensures {u = tt})) (c.in_ok-push.ensures {u = tt}).items)

pub returns-clause-longest : goal.returns-clause-longest
returns-clause-longest g c =
    let ds = g.G.ChunkGridTraits.dimensions c.args.grid.now in
    let elements = c.args.elements.now in
    let (_, is) = subst (AnswersCover ds elements) (c.in_ok-cover.ensures {u = tt}) (c.chunks_in_array_subset.ensures.answers (inl c.requires.some)) in
    are_longest ds elements c.in_ok-cover.cover (g.met.G.ChunkGridTraits.chained c.args.grid.now) c.is_a_box.ensures c.requires.some is c.loop-dimension.dimension
    c.loop-dimension.edges.items (rw c.start-first.ensures.value at c.loop-dimension-test.false)
    (rw (c.start-first.ensures.value, c.shape-many.ensures.value) at c.loop-dimension.invariant)

pub returns-clause-long : goal.returns-clause-long
returns-clause-long g c =
    let ds = g.G.ChunkGridTraits.dimensions c.args.grid.now in
    let elements = c.args.elements.now in
    let (_, is) = subst (AnswersCover ds elements) (c.in_ok-cover.ensures {u = tt}) (c.chunks_in_array_subset.ensures.answers (inl c.requires.some)) in
    as_many_longest ds elements c.in_ok-cover.cover (g.met.G.ChunkGridTraits.chained c.args.grid.now) c.is_a_box.ensures c.requires.some is
    c.loop-dimension.dimension c.loop-dimension.edges.items (rw c.start-first.ensures.value at c.loop-dimension-test.false)
    (rw (c.start-first.ensures.value, c.shape-many.ensures.value) at c.loop-dimension.invariant)

pub returns-clause-some : goal.returns-clause-some
returns-clause-some g c =
    let ds = g.G.ChunkGridTraits.dimensions c.args.grid.now in
    let elements = c.args.elements.now in
    let (_, is) = subst (AnswersCover ds elements) (c.in_ok-cover.ensures {u = tt}) (c.chunks_in_array_subset.ensures.answers (inl c.requires.some)) in
    each_longest ds elements c.in_ok-cover.cover (g.met.G.ChunkGridTraits.chained c.args.grid.now) c.is_a_box.ensures c.requires.some is c.loop-dimension.dimension
    c.loop-dimension.edges.items (rw c.start-first.ensures.value at c.loop-dimension-test.false)
    (rw (c.start-first.ensures.value, c.shape-many.ensures.value) at c.loop-dimension.invariant)
