use Rattle.std.specs.Int.NonZero.{non_zero_u64_get}
use Rattle.zarrs_chunk_axes.specs.Along.{IsRegular}
use Rattle.zarrs_chunk_axes.proofs.Dimensions.{some_along}
use Rattle.zarrs_chunk_axes.proofs.axis_grid.AxisGrid.regular_along.Goals as goal

pub returns-in-Some : goal.returns-in-Some
returns-in-Some g c =
    let (_, is, _, (within, _), _) = rw c.deref.ensures.value at c.in-Some.ensures.lookup in
    some_along g.A.Axis.dimension (λ edge d. IsRegular d (non_zero_u64_get edge)) c.args.self.now.axes.items c.args.dimension c.in-Some.axis.now
    c.regular_edge.result within is c.regular_edge.ensures
