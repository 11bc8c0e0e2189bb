use Rattle.zarrs_chunk_axes.specs.lemmas.AllChains.{are_chains}
use Rattle.zarrs_chunk_axes.proofs.Bounds.{axes_in_bounds, below_in_bounds, each_in_bounds, in_each_axis}
use Rattle.zarrs_chunk_axes.proofs.axis_grid.AxisGrid.are_in_bounds.Goals as goal

pub returns-clause-within : goal.returns-clause-within
returns-clause-within g c = λ below.
    let axes = c.args.self.now.axes.items in
    let exact = rw c.deref.ensures.value at c.are_in_bounds.ensures in
    exact.1 (below_in_bounds g.A.Axis.dimension g.A.Axis.edges _ axes (are_chains g.A.Axis.dimension g.met.A.Axis.chained axes) below)

pub returns-clause-only : goal.returns-clause-only
returns-clause-only g c = λ t.
    let exact = rw c.deref.ensures.value at c.are_in_bounds.ensures in
    each_in_bounds g.A.Axis.dimension g.A.Axis.edges _ _ (exact.0 t)

pub returns-clause-exact : goal.returns-clause-exact
returns-clause-exact g c =
    let exact = rw c.deref.ensures.value at c.are_in_bounds.ensures in
    (λ t. in_each_axis g.A.Axis.dimension g.A.Axis.edges _ _ (exact.0 t), λ each. exact.1 (axes_in_bounds g.A.Axis.dimension g.A.Axis.edges _ _ each))
