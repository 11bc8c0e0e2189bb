use Rattle.std.proofs.Common.{[], arith, refl}
use Rattle.zarrs_chunk_tasks.proofs.GroupCounts.{end_fits}
use Rattle.zarrs_chunk_tasks.proofs.LeastStage.{all_limits, lies_along, no_limits, one_more}
use Rattle.zarrs_chunk_tasks.proofs.SumsAlong.{one_of}
use Rattle.zarrs_chunk_tasks.proofs.least.limits_of.Goals as goal

pub loop-dimension-init : goal.loop-dimension-init
loop-dimension-init g c = ([], tt, no_limits _ refl refl refl refl refl)

pub limits_along-requires-clause-source : goal.limits_along-requires-clause-source
limits_along-requires-clause-source g c =
    let region = c.args.region.now in
    rw (c.start-first.ensures.value, c.shape-shape.ensures.value)
    (lies_along (g.G.ChunkGridTraits.dimensions c.args.source.now) region.start region.shape c.loop-dimension.dimension c.requires.can.in_source
    (rw c.shape-shape.ensures.value at c.loop-dimension-test.true))

pub limits_along-requires-clause-first : goal.limits_along-requires-clause-first
limits_along-requires-clause-first g c =
    let region = c.args.region.now in
    let within = rw c.shape-shape.ensures.value at c.loop-dimension-test.true in
    rw (c.start-first.ensures.value, c.shape-shape.ensures.value)
    (end_fits region.start region.shape c.loop-dimension.dimension c.is_a_box.ensures.fits (omega (arith, within, c.is_a_box.ensures.lengths)) within)

pub limits_along-requires-clause-at : goal.limits_along-requires-clause-at
limits_along-requires-clause-at g c =
    let region = c.args.region.now in
    let moved = c.args.moved.now in
    let within = rw c.shape-shape.ensures.value at c.loop-dimension-test.true in
    rw (c.start-at.ensures.value, c.shape-shape.ensures.value)
    (end_fits moved.start region.shape c.loop-dimension.dimension (rw c.requires.same at c.is_a_box-2.ensures.fits)
    (omega (arith, within, rw c.requires.same at c.is_a_box-2.ensures.lengths)) within)

pub with_along-limits-requires : goal.with_along-limits-requires
with_along-limits-requires g c =
    let here = c.in_ok-along.ensures {u = tt} in
    let it = one_of _ _ c.loop-dimension.dimension (g.met.G.ChunkGridTraits.chained c.args.source.now) here in
    let inner = it.at _ here in
    let other = one_of _ _ c.loop-dimension.dimension (g.met.H.ChunkGridTraits.chained c.args.target.now) inner in
    let is = other.at _ inner in
    is.some

pub loop-dimension-preserved : goal.loop-dimension-preserved
loop-dimension-preserved g c =
    let source = g.G.ChunkGridTraits.dimensions c.args.source.now in
    let target = g.H.ChunkGridTraits.dimensions c.args.target.now in
    let region = c.args.region.now in
    let moved = c.args.moved.now in
    let k = c.loop-dimension.dimension in
    rw (c.start-first.ensures.value, c.start-at.ensures.value, c.shape-shape.ensures.value)
    (one_more source target region moved c.requires.can c.requires.same (g.met.G.ChunkGridTraits.chained c.args.source.now)
    (g.met.H.ChunkGridTraits.chained c.args.target.now) k c.in_ok-along.along c.loop-dimension.limits c.with_along-limits.result
    (rw c.shape-shape.ensures.value at c.loop-dimension-test.true) (rw (c.start-first.ensures.value, c.start-at.ensures.value, c.shape-shape.ensures.value) at c.loop-dimension.invariant)
    (rw (c.start-first.ensures.value, c.start-at.ensures.value, c.shape-shape.ensures.value) at (c.in_ok-along.ensures {u = tt})) c.with_along-limits.ensures)

pub returns : goal.returns
returns g c =
    let source = g.G.ChunkGridTraits.dimensions c.args.source.now in
    let target = g.H.ChunkGridTraits.dimensions c.args.target.now in
    let region = c.args.region.now in
    let moved = c.args.moved.now in
    let k = c.loop-dimension.dimension in
    all_limits source target region moved c.requires.can c.requires.same (g.met.G.ChunkGridTraits.chained c.args.source.now)
    (g.met.H.ChunkGridTraits.chained c.args.target.now) k c.loop-dimension.limits (rw c.shape-shape.ensures.value at c.loop-dimension-test.false)
    (rw (c.start-first.ensures.value, c.start-at.ensures.value, c.shape-shape.ensures.value) at c.loop-dimension.invariant)
