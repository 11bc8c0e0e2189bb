use Rattle.std.proofs.Common.{◌<◌, lt-ltb, ltb-true}
use Rattle.zarrs_chunk_axes.specs.seen.ListedEdges.{reached}
use Rattle.zarrs_chunk_axes.proofs.ListedAxes.{below_sum}
use Rattle.zarrs_chunk_axes.proofs.runs_axis.RunsAxisAxis.is_in_bounds.Goals as goal

pub returns-then-is_in_bounds : goal.returns-then-is_in_bounds
returns-then-is_in_bounds c =
    let size = c.args.self.now.array_size in
    let edges = c.args.self.now.edges in
    let index = c.args.index in (
      λ below.
          let within : index < c.total.result = ltb-true index c.total.result below in
          let (chunk, counted, holds) = reached size _ index (rw c.total.ensures at within) in
          (c.is_in_bounds.ensures.0 c.if-is_in_bounds.true, (chunk, holds)),
      λ both. lt-ltb index c.total.result (rw c.total.ensures (below_sum size _ index both.1.0 both.1.1)),
    )
