use Rattle.zarrs_chunks.proofs.Meeting.{is_union}
use Rattle.zarrs_chunks.proofs.laws.the_box_of_chunks_is_the_union_of_their_boxes.Goals as goal

pub returns : goal.returns
returns g c = λ chunks union is_box some is index.
    is_union _ chunks union (g.met.G.ChunkGridTraits.chained c.args.grid.now) is_box some (is.1.1 some) index
