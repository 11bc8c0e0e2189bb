use Rattle.zarrs_chunks.proofs.SeenGrids.{same_dimensions}
use Rattle.zarrs_chunks.proofs.laws.the_edges_determine_the_dimensions.Goals as goal

pub returns : goal.returns
returns c = same_dimensions c.args.grid.now c.args.other.now
