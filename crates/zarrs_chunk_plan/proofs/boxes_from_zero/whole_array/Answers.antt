use Rattle.zarrs_chunk_plan.proofs.Common.{length-map}
use Rattle.zarrs_chunk_plan.proofs.boxes_from_zero.whole_array.Goals as goal

pub returns-clause-elements : goal.returns-clause-elements
returns-clause-elements g c =
    let ds = g.G.ChunkGridTraits.dimensions c.args.grid.now in
    let made = rw c.array_shape.ensures at c.box_from_zero.ensures.value in
    rw (← length-map ds (λ d. d.array_size)) made
