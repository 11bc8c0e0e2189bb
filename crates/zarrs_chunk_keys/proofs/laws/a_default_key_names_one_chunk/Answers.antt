use Rattle.zarrs_chunk_keys.specs.ChunkKey.{IsKey}
use Rattle.zarrs_chunk_keys.specs.lemmas.ExactKeys.{default_exact, suffixed_exact}
use Rattle.zarrs_chunk_keys.proofs.laws.a_default_key_names_one_chunk.Goals as goal

pub returns-clause-default : goal.returns-clause-default
unfolding IsKey
returns-clause-default c = default_exact

pub returns-clause-suffixed : goal.returns-clause-suffixed
unfolding IsKey
returns-clause-suffixed c = suffixed_exact
