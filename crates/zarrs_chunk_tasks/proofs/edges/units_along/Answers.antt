use Rattle.std.proofs.Common.{ap, arith, length}
use Rattle.zarrs_chunk_tasks.proofs.TriedEdges.{are_units, units_more}
use Rattle.zarrs_chunk_tasks.proofs.edges.units_along.Goals as goal

pub loop-dimension-preserved : goal.loop-dimension-preserved
loop-dimension-preserved g c =
    let same = ap length c.shape-sizes.ensures.value in
    let shapes = ap length c.requires.same in
    let read = c.in_ok-read.ensures {u = tt} in
    let written = c.in_ok-written.ensures {u = tt} in
    units_more c.shape-sizes.result.now c.in_ok-read.read.items c.in_ok-written.written.items c.loop-dimension.dimension c.index.result.now
    c.index-in-loop-dimension.result.now c.min.result c.min-in-loop-dimension.result c.loop-dimension.units.items c.push.new.self.items
    (omega (arith, read.long, same)) (omega (arith, written.long, shapes, same)) c.loop-dimension-test.true c.loop-dimension.invariant c.index.ensures
    c.index-in-loop-dimension.ensures c.min.ensures c.min-in-loop-dimension.ensures (c.in_ok-push.ensures {u = tt}).items

pub returns : goal.returns
returns g c =
    let source = g.G.ChunkGridTraits.dimensions c.args.source.now in
    let target = g.H.ChunkGridTraits.dimensions c.args.target.now in
    let read = c.in_ok-read.ensures {u = tt} in
    let written = c.in_ok-written.ensures {u = tt} in
    are_units source target c.args.region.now c.args.moved.now c.in_ok-read.read.items c.in_ok-written.written.items c.loop-dimension.dimension
    c.loop-dimension.units.items c.requires.same c.shape-sizes.ensures.is_box c.is_a_box.ensures c.requires.some read.longest written.longest read.long written.long
    read.some written.some (rw c.shape-sizes.ensures.value at c.loop-dimension-test.false) (rw c.shape-sizes.ensures.value at c.loop-dimension.invariant)
