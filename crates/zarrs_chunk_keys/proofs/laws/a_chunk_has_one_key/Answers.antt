use Rattle.zarrs_chunk_keys.proofs.OneKey.{one_key}
use Rattle.zarrs_chunk_keys.proofs.laws.a_chunk_has_one_key.Goals as goal

pub returns : goal.returns
returns c = one_key
