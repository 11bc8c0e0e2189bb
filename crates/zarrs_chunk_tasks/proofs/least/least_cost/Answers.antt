use Rattle.std.proofs.Common.{arith}
use Rattle.zarrs_chunk_tasks.proofs.LeastStage.{found_least, found_none}
use Rattle.zarrs_chunk_tasks.proofs.least.least_cost.Goals as goal

pub returns-then-room-eq0-clause-none : goal.returns-then-room-eq0-clause-none
returns-then-room-eq0-clause-none g c =
    let source = g.G.ChunkGridTraits.dimensions c.args.source.now in
    let target = g.H.ChunkGridTraits.dimensions c.args.target.now in
    found_none source target c.args.region.now c.args.moved.now c.requires.can c.requires.same (g.met.G.ChunkGridTraits.chained c.args.source.now)
    (g.met.H.ChunkGridTraits.chained c.args.target.now) c.is_a_box.ensures c.is_a_box-2.ensures c.requires.some c.args.max_elements c.in_ok-read.read
    c.in_ok-written.written c.saturating_sub-room.result (omega (arith, c.ranges.max_elements.fits)) (c.in_ok-read.ensures {u = tt})
    (c.in_ok-written.ensures {u = tt}) (rw c.max.ensures at c.saturating_sub-room.ensures) c.if-room-eq0.true

pub returns-clause-some : goal.returns-clause-some
returns-clause-some g c =
    let source = g.G.ChunkGridTraits.dimensions c.args.source.now in
    let target = g.H.ChunkGridTraits.dimensions c.args.target.now in
    found_least source target c.args.region.now c.args.moved.now c.requires.can c.requires.same (g.met.G.ChunkGridTraits.chained c.args.source.now)
    (g.met.H.ChunkGridTraits.chained c.args.target.now) c.is_a_box.ensures c.is_a_box-2.ensures c.requires.some c.args.max_elements c.in_ok-read.read
    c.in_ok-written.written c.saturating_sub-room.result (omega (arith, c.ranges.max_elements.fits)) (c.in_ok-read.ensures {u = tt})
    (c.in_ok-written.ensures {u = tt}) (rw c.max.ensures at c.saturating_sub-room.ensures)
    c.in_ok-limits.limits (c.in_ok-limits.ensures {u = tt}) c.args.read_elements c.cost_within.result c.cost_within.ensures
