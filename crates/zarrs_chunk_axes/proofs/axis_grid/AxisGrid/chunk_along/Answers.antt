use Rattle.std.proofs.Common.{arith}
use Rattle.zarrs_chunk_base.specs.Dimension.{Holds}
use Rattle.zarrs_chunk_axes.proofs.Dimensions.{along_within, found_along}
use Rattle.zarrs_chunk_axes.proofs.axis_grid.AxisGrid.chunk_along.Goals as goal

pub returns-in_default : goal.returns-in_default
returns-in_default g c =
    let none = rw c.deref.ensures.value at c.in_default.ensures.lookup.3 in
    λ chunk holds. let within = along_within g.A.Axis.dimension (λ d. Holds d chunk c.args.index) c.args.self.now.axes.items c.args.dimension holds in omega arith

pub returns : goal.returns
returns g c =
    let (_, is, _, (within, _), _) = rw c.deref.ensures.value at c.in-Some.ensures.lookup in
    found_along g.A.Axis.dimension (λ chunk d. Holds d chunk c.args.index) c.args.self.now.axes.items c.args.dimension c.in-Some.axis.now c.chunk_of.result within is c.chunk_of.ensures
