use Rattle.std.proofs.Common.{arith}
use Rattle.zarrs_chunk_axes.proofs.ListedAxes.{edge_taken, in_order, is_edge}
use Rattle.zarrs_chunk_axes.specs.seen.ListedAxis.{listed_of}
use Rattle.zarrs_chunk_base.specs.Dimension.{HasEdge}
use Rattle.zarrs_chunk_axes.proofs.listed_axis.ListedAxisAxis.edge_of.Goals as goal

pub overflow_sub-end : goal.overflow_sub-end
overflow_sub-end c = let before = in_order c.args.self.now.ends.items c.args.self.now.rising _ _ c.in_ok-start.ensures in omega arith

pub returns : goal.returns
returns c =
    let before = in_order c.args.self.now.ends.items c.args.self.now.rising _ _ c.in_ok-start.ensures in
    let edge = is_edge c.args.self.now.array_size _ _ _ c.in_ok-start.ensures in
    edge_taken (HasEdge (listed_of c.args.self.now) c.args.chunk) _ _ _ (omega arith) edge c.new.ensures
