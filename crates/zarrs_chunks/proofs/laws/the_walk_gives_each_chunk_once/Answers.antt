use Rattle.zarrs_chunk_base.specs.Dimension.{grid_sizes}
use Rattle.zarrs_chunk_axes.proofs.RowMajorOrder.{are_those_below, each_once, in_order}
use Rattle.zarrs_chunks.proofs.laws.the_walk_gives_each_chunk_once.Goals as goal

pub returns-clause-each : goal.returns-clause-each
returns-clause-each g c = are_those_below (grid_sizes (g.G.ChunkGridTraits.dimensions c.args.grid.now))

pub returns-clause-in_order : goal.returns-clause-in_order
returns-clause-in_order g c = in_order (grid_sizes (g.G.ChunkGridTraits.dimensions c.args.grid.now))

pub returns-clause-once : goal.returns-clause-once
returns-clause-once g c = each_once (grid_sizes (g.G.ChunkGridTraits.dimensions c.args.grid.now))
