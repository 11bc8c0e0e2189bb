use Rattle.zarrs_chunks.proofs.Alike.{answer_alike}
use Rattle.zarrs_chunks.proofs.laws.grids_of_like_dimensions_answer_alike.Goals as goal

pub returns : goal.returns
returns g c = λ alike. answer_alike _ _ alike (g.met.G.ChunkGridTraits.chained c.args.grid.now)
