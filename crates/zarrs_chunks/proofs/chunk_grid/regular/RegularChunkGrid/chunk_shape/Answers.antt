use Rattle.zarrs_chunk_axes.proofs.EqualAxes.{have_edges}
use Rattle.zarrs_chunks.proofs.chunk_grid.regular.RegularChunkGrid.chunk_shape.Goals as goal

pub returns : goal.returns
returns c = rw (c.deref.ensures.value, c.args.self.now.edges) (have_edges c.args.self.now.axes.axes.items)
