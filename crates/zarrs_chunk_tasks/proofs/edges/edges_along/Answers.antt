use Rattle.zarrs_chunk_tasks.proofs.TriedEdges.{row_in_order, row_is}
use Rattle.zarrs_chunk_tasks.proofs.edges.edges_along.Goals.{then-in_order, else-in_order}
use Rattle.zarrs_chunk_tasks.proofs.edges.edges_along.Goals as goal

pub returns : goal.returns
returns c =
    let is = row_is c.args.along.now _ _ (rw c.new-edges.ensures.items at (c.in_ok-put_all.ensures {u = tt})) (c.in_ok-put_all-2.ensures {u = tt}) in
    elim c.if-in_order.branch [
      | then-in_order w ↦ rw w.edges-is (row_in_order c.args.along.now _ _ w.sort_unstable.ensures.permutation is)
      | else-in_order w ↦ rw w.edges-is is
    ]
