use Rattle.std.proofs.Common.{◌<◌, arith, length}
use Rattle.std.proofs.Math.Nat.{mod-lt}
use Rattle.zarrs_chunk_tasks.proofs.TwoStages.{no_more_edges, one_edge_more, some_in_row}
use Rattle.zarrs_chunk_tasks.proofs.between.shape_at.Goals as goal

pub nonzero_rem-left : goal.nonzero_rem-left
nonzero_rem-left c = rw c.as_slice.ensures.value (some_in_row c.args.edges.now c.loop-row.row-index c.row-item.result c.requires c.loop-row-test.true c.row-item.is)

pub index-requires : goal.index-requires
index-requires c =
    let some = some_in_row c.args.edges.now c.loop-row.row-index c.row-item.result c.requires c.loop-row-test.true c.row-item.is in
    let long : 0 < length c.as_slice.result.now = rw c.as_slice.ensures.value some in
    omega (arith, mod-lt c.loop-row.left long, c.as_slice.ensures.len)

pub nonzero_div-left : goal.nonzero_div-left
nonzero_div-left c = rw c.as_slice.ensures.value (some_in_row c.args.edges.now c.loop-row.row-index c.row-item.result c.requires c.loop-row-test.true c.row-item.is)

pub loop-row-preserved : goal.loop-row-preserved
loop-row-preserved c =
    rw ((c.in_ok-push.ensures {u = tt}).items, c.as_slice.ensures.value)
    (one_edge_more c.args.edges.now c.args.number c.loop-row.row-index c.loop-row.left c.row-item.result c.index.result.now c.loop-row.shape.items
    c.loop-row-test.true c.row-item.is (rw c.as_slice.ensures.value at c.index.ensures) c.loop-row.invariant)

pub returns : goal.returns
returns c = no_more_edges c.args.edges.now c.args.number c.loop-row.row-index c.loop-row.left c.loop-row.shape.items (omega (arith, c.loop-row-test.false)) c.loop-row.invariant
