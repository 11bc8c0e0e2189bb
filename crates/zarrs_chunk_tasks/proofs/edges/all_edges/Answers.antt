use Rattle.std.proofs.Common.{arith, take_all}
use Rattle.zarrs_chunk_tasks.specs.seen.TriedEdges.{IsSome}
use Rattle.zarrs_chunk_tasks.proofs.TriedEdges.{rows_more}
use Rattle.zarrs_chunk_tasks.proofs.TriedSizes.{all_at}
use Rattle.zarrs_chunk_tasks.proofs.edges.all_edges.Goals as goal

pub loop-along-init : goal.loop-along-init
loop-along-init c = rw c.new-rows.ensures.items tt

pub edges_along-requires : goal.edges_along-requires
edges_along-requires c = all_at IsSome c.args.units.now c.loop-along.along-index _ c.loop-along-test.true c.requires

pub loop-along-preserved : goal.loop-along-preserved
loop-along-preserved c =
    rows_more c.args.units.now c.loop-along.along-index _ c.loop-along.rows.items c.push.new.self.items c.in_ok-edges_along.field-0 c.loop-along-test.true
    c.loop-along.invariant (c.in_ok-edges_along.ensures {u = tt}) (c.in_ok-push.ensures {u = tt}).items

pub returns : goal.returns
returns c =
    let whole = take_all c.loop-along.along-index c.args.units.now (omega (arith, c.loop-along-test.false)) in rw whole at c.loop-along.invariant
