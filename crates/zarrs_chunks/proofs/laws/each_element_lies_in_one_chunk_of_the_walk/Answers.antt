use Rattle.zarrs_chunk_base.specs.Dimension.{grid_sizes}
use Rattle.zarrs_chunk_axes.proofs.RowMajorOrder.{are_those_below}
use Rattle.zarrs_chunks.proofs.Chains.{same_box}
use Rattle.zarrs_chunks.proofs.FittingChunks.{counted_home}
use Rattle.zarrs_chunks.proofs.laws.each_element_lies_in_one_chunk_of_the_walk.Goals as goal

pub returns-clause-one : goal.returns-clause-one
returns-clause-one g c =
    let ds = g.G.ChunkGridTraits.dimensions c.args.grid.now in
    λ index below.
    let (chunk, counted, box) = counted_home ds index (g.met.G.ChunkGridTraits.chained c.args.grid.now) below in
    (chunk, (are_those_below (grid_sizes ds) chunk).1 counted, box)

pub returns-clause-no_other : goal.returns-clause-no_other
returns-clause-no_other g c =
    λ index chunk other first second. same_box _ chunk other index (g.met.G.ChunkGridTraits.chained c.args.grid.now) first second
