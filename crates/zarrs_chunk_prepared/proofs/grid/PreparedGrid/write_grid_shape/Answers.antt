use Rattle.std.proofs.Common.{◌∙◌}
use Rattle.zarrs_chunk_prepared.proofs.EachDimension.{sizes_are}
use Rattle.zarrs_chunk_prepared.proofs.grid.PreparedGrid.write_grid_shape.Goals as goal

pub returns-clause-sizes : goal.returns-clause-sizes
returns-clause-sizes c grid are =
    sizes_are grid.dimensions c.args.self.now.axes.items c.write_sizes.new.sizes are (c.write_sizes.auto.sizes ∙ c.in_ok-check.ensures)
    (rw c.deref.ensures.value at c.write_sizes.ensures)
