use Rattle.zarrs_chunks.proofs.Meeting.{cover_holds}
use Rattle.zarrs_chunks.proofs.laws.each_element_of_a_box_lies_in_a_chunk_of_its_cover.Goals as goal

pub returns : goal.returns
returns g c = λ elements cover is_box is index inside.
    cover_holds _ elements cover (g.met.G.ChunkGridTraits.chained c.args.grid.now) is_box is index inside
