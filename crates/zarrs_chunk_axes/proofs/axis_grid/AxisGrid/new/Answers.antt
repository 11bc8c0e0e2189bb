use Rattle.zarrs_chunk_base.proofs.InEach.{numbers_are}
use Rattle.zarrs_chunk_axes.proofs.axis_grid.AxisGrid.new.Goals as goal

pub invariant_of-result-clause-array_sizes : goal.invariant_of-result-clause-array_sizes
invariant_of-result-clause-array_sizes g c =
    let made = rw c.deref-2.ensures.value at c.in_ok-axes.ensures.made in
    numbers_are _ (λ d. d.array_size) g.met.A.AxisFrom.sized _ _ _ made

pub invariant_of-result-clause-grid_sizes : goal.invariant_of-result-clause-grid_sizes
invariant_of-result-clause-grid_sizes g c = rw c.deref-3.ensures.value at c.in_ok-grid_shape.ensures
