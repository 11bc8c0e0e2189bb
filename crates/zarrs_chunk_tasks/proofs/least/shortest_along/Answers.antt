use Rattle.std.proofs.Common.{◌≡◌, arith}
use Rattle.std.specs.Int.NonZero.{non_zero_u64_get}
use Rattle.zarrs_chunk_axes.specs.Along.{IsRegular}
use Rattle.zarrs_chunk_tasks.proofs.LeastStage.{none_shorter, shorter_more, shorter_of_regular}
use Rattle.zarrs_chunk_tasks.proofs.SumsAlong.{one_of}
use Rattle.zarrs_chunk_tasks.proofs.least.shortest_along.Goals as goal

pub returns-in-Some : goal.returns-in-Some
returns-in-Some g c =
    let edge = non_zero_u64_get c.in-Some.edge in
    let it = one_of _ _ c.args.dimension (g.met.G.ChunkGridTraits.chained c.args.grid.now) c.requires.last in
    it.back _
    (shorter_of_regular it.d it.chain edge c.in-Some.edge.ok (it.at (λ d. IsRegular d edge) c.in-Some.ensures) c.args.first c.args.many c.in_ok-shortest.shortest _
    c.requires.some (it.at _ c.requires.last) (it.at _ (c.in_ok-shortest.ensures {u = tt})) (rw c.get.ensures.value at c.min.ensures))

pub loop-steps-init : goal.loop-steps-init
loop-steps-init g c =
    let it = one_of _ _ c.args.dimension (g.met.G.ChunkGridTraits.chained c.args.grid.now) c.requires.last in
    it.back _ (none_shorter it.d c.args.first c.in_ok-shortest.shortest)

pub loop-steps-preserved : goal.loop-steps-preserved
loop-steps-preserved g c =
    let it = one_of _ _ c.args.dimension (g.met.G.ChunkGridTraits.chained c.args.grid.now) c.requires.last in
    it.back _
    (shorter_more it.d c.args.first c.loop-steps.steps c.loop-steps.shortest c.in_ok-edge_along.field-0 c.min-shortest.result (it.at _ c.loop-steps.invariant)
    (it.at _ (c.in_ok-edge_along.ensures {u = tt})) c.min-shortest.ensures)

pub returns : goal.returns
returns g c =
    let ended : c.loop-steps.steps ≡ c.args.many = omega (arith, c.loop-steps-test.false, c.loop-steps.auto.steps-end) in
    rw ended at c.loop-steps.invariant
