use Rattle.zarrs_chunks.proofs.Chains.{same_box}
use Rattle.zarrs_chunks.proofs.laws.chunks_share_no_index.Goals as goal

pub returns : goal.returns
returns g c = λ chunk other index first second. same_box _ chunk other index (g.met.G.ChunkGridTraits.chained c.args.grid.now) first second
