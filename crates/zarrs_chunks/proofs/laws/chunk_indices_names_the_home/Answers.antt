use Rattle.zarrs_chunks.proofs.Chains.{names_the_home}
use Rattle.zarrs_chunks.proofs.laws.chunk_indices_names_the_home.Goals as goal

pub returns : goal.returns
returns g c = λ index chunk named is. names_the_home _ index chunk (g.met.G.ChunkGridTraits.chained c.args.grid.now) named is
