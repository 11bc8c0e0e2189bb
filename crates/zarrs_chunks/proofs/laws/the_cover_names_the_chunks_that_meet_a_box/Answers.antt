use Rattle.zarrs_chunks.proofs.Meeting.{cover_meets}
use Rattle.zarrs_chunks.proofs.laws.the_cover_names_the_chunks_that_meet_a_box.Goals as goal

pub returns : goal.returns
returns g c = λ elements cover is_box some is chunk.
    cover_meets _ elements cover (g.met.G.ChunkGridTraits.chained c.args.grid.now) is_box some is.1 chunk
