use Rattle.zarrs_chunk_tasks.specs.seen.TriedEdges.{edges_in}
use Rattle.zarrs_chunk_tasks.proofs.TriedEdges.{all_pieces, first_piece, next_piece, units_are}
use Rattle.zarrs_chunk_tasks.proofs.edges.put_all.Goals as goal

pub loop-multiple-init : goal.loop-multiple-init
loop-multiple-init c =
    let units = units_are c.args.size c.args.unit c.div_ceil-units.result c.requires.size c.requires.unit c.div_ceil-units.ensures in
    first_piece c.args.size c.args.unit c.div_ceil-units.result (edges_in c.args.edges.now.items) _ _ units.1 c.edge_of.ensures (c.in_ok-put.ensures {u = tt})

pub loop-multiple-smaller : goal.loop-multiple-smaller
loop-multiple-smaller c =
    let units = units_are c.args.size c.args.unit c.div_ceil-units.result c.requires.size c.requires.unit c.div_ceil-units.ensures in
    let next = c.next_pieces-pieces.ensures in
    (next_piece c.args.size c.args.unit c.div_ceil-units.result (edges_in c.args.edges.now.items) (edges_in c.loop-multiple.edges.items) _
    c.loop-multiple.pieces c.loop-multiple.multiple c.next_pieces-pieces.result c.div_ceil-multiple.result _ units.1 c.loop-multiple-test.true
    c.loop-multiple.invariant next.shorter next.least c.div_ceil-multiple.ensures c.edge_of-in-loop-multiple.ensures (c.in_ok-put-2.ensures {u = tt})).1

pub loop-multiple-preserved : goal.loop-multiple-preserved
loop-multiple-preserved c =
    let units = units_are c.args.size c.args.unit c.div_ceil-units.result c.requires.size c.requires.unit c.div_ceil-units.ensures in
    let next = c.next_pieces-pieces.ensures in
    (next_piece c.args.size c.args.unit c.div_ceil-units.result (edges_in c.args.edges.now.items) (edges_in c.loop-multiple.edges.items) _
    c.loop-multiple.pieces c.loop-multiple.multiple c.next_pieces-pieces.result c.div_ceil-multiple.result _ units.1 c.loop-multiple-test.true
    c.loop-multiple.invariant next.shorter next.least c.div_ceil-multiple.ensures c.edge_of-in-loop-multiple.ensures (c.in_ok-put-2.ensures {u = tt})).0

pub returns : goal.returns
returns c =
    let units = units_are c.args.size c.args.unit c.div_ceil-units.result c.requires.size c.requires.unit c.div_ceil-units.ensures in
    all_pieces c.args.size c.args.unit c.div_ceil-units.result (edges_in c.args.edges.now.items) (edges_in c.loop-multiple.edges.items) c.loop-multiple.pieces
    c.loop-multiple.multiple units.0 units.1 c.loop-multiple-test.false c.loop-multiple.invariant
