use Rattle.std.proofs.Common.{map}
use Rattle.zarrs_chunk_axes.proofs.RowMajorOrder.{are_those_below}
use Rattle.zarrs_chunks.proofs.FittingChunks.{box_fits, box_is, has_box}
use Rattle.zarrs_chunks.proofs.laws.the_boxes_of_a_walk_are_those_of_its_chunks.Goals as goal

pub returns-clause-boxed : goal.returns-clause-boxed
returns-clause-boxed g c =
    let ds = g.G.ChunkGridTraits.dimensions c.args.grid.now in
    λ chunk counted fits.
    has_box ds chunk (g.met.G.ChunkGridTraits.chained c.args.grid.now) ((are_those_below (map (λ d. d.grid_size) ds) chunk).0 counted) fits

pub returns-clause-only : goal.returns-clause-only
returns-clause-only g c =
    let ds = g.G.ChunkGridTraits.dimensions c.args.grid.now in
    λ chunk b spans. (box_fits ds chunk b spans, box_is ds chunk b spans)
