use Rattle.zarrs_chunks.proofs.ChunksInBoxes.{has_origin_in_cover}
use Rattle.zarrs_chunks.proofs.laws.a_chunk_of_a_cover_has_an_origin.Goals as goal

pub returns : goal.returns
returns g c = λ elements cover is_box some is chunk within.
    has_origin_in_cover _ elements cover (g.met.G.ChunkGridTraits.chained c.args.grid.now) is_box some is chunk within
