use Rattle.zarrs_chunks.proofs.OneDimension.{found_of_axes}
use Rattle.zarrs_chunks.proofs.chunk_grid.over_axes.AnyChunkGridTraits.chunk_along.Goals as goal

pub returns : goal.returns
returns g c =
    found_of_axes (g.G.GridOfKind.grid c.args.self.now).dimensions c.args.dimension c.args.array_index c.chunk_along.result
    (g.met.G.OverAxes.axes_chained c.args.self.now) (rw c.axes.ensures.dimensions at c.chunk_along.ensures)
