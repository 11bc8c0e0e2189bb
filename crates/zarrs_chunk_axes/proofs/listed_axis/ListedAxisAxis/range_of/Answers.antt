use Rattle.std.proofs.Common.{arith, rules, sym}
use Rattle.zarrs_chunk_axes.proofs.ListedAxes.{in_order, is_edge}
use Rattle.zarrs_chunk_axes.proofs.listed_axis.ListedAxisAxis.range_of.Goals as goal

pub overflow_sub-result : goal.overflow_sub-result
overflow_sub-result c = let before = in_order c.args.self.now.ends.items c.args.self.now.rising _ _ c.in_ok-start.ensures in omega arith

pub returns : goal.returns
returns c =
    let before = in_order c.args.self.now.ends.items c.args.self.now.rising _ _ c.in_ok-start.ensures in
    let edge = is_edge c.args.self.now.array_size _ _ _ c.in_ok-start.ensures in
    record { start = record { chunk = edge.chunk; start = sym c.in_ok-start.ensures.start }; edge = edge; fits = search rules }
