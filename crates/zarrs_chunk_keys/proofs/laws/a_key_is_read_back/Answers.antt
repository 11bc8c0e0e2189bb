use Rattle.std.proofs.Common.{ℕ, List, length}
use Rattle.zarrs_chunk_keys.proofs.ReadKeys.{has_key, read_back}
use Rattle.zarrs_chunk_keys.proofs.laws.a_key_is_read_back.Goals as goal

pub returns : goal.returns
returns g c = λ chunk key answer fit is.
    let HasKey : List ℕ → Type 0 = λ other. g.E.ChunkKeyEncodingTraits.is_key c.args.encoding.now other key in (
      λ has. read_back HasKey chunk answer (λ other. g.met.E.ChunkKeyEncodingTraits.exact c.args.encoding.now other chunk key) fit has is,
      λ same. has_key HasKey (length chunk) answer chunk is same,
    )
