use Rattle.std.proofs.Common.{arith}
use Rattle.zarrs_chunk_axes.specs.Along.{IsRange}
use Rattle.zarrs_chunk_axes.proofs.Dimensions.{along_axis, along_within}
use Rattle.zarrs_chunk_axes.proofs.axis_grid.AxisGrid.range_along.Goals as goal

pub returns-in_default : goal.returns-in_default
returns-in_default g c =
    let none = rw c.deref.ensures.value at (c.in_default.ensures {u = tt}).lookup.3 in
    λ range is.
    let within = along_within g.A.Axis.dimension (λ d. IsRange d c.args.chunk range) c.args.self.now.axes.items c.args.dimension is in
    absurd (omega arith)

pub returns-in_err-start : goal.returns-in_err-start
returns-in_err-start g c =
    let (_, at, _, (within, _), _) = rw c.deref.ensures.value at c.in-Some.ensures.lookup in
    let axes = c.args.self.now.axes.items in
    rw c.from_residual.ensures (λ range is.
    c.in_err-start.ensures {u = tt} range.0
    ((along_axis g.A.Axis.dimension (λ d. IsRange d c.args.chunk range) axes c.args.dimension c.in-Some.axis.now within at).0 is).start)

pub returns : goal.returns
returns g c =
    let (_, at, _, (within, _), _) = rw c.deref.ensures.value at c.in-Some.ensures.lookup in
    let axes = c.args.self.now.axes.items in
    (along_axis g.A.Axis.dimension (λ d. IsRange d c.args.chunk (c.in_ok-start.start, c.get-2.result)) axes c.args.dimension c.in-Some.axis.now within at).1
    (record { start = c.in_ok-start.ensures {u = tt}; edge = rw c.get-2.ensures.value (c.in_ok-edge.ensures {u = tt}) })
