use Rattle.zarrs_chunk_keys.specs.ChunkKey.{IsKey}
use Rattle.zarrs_chunk_keys.proofs.OneKey.{one_key}
use Rattle.zarrs_chunk_keys.proofs.ReadKeys.{has_key}
use Rattle.zarrs_chunk_keys.proofs.laws.keys_read_as_one_chunk_are_equal.Goals as goal

pub returns : goal.returns
returns c = λ encoding dimensionality one other chunk read also of_one of_other is is_also.
    one_key encoding chunk one other (has_key (λ chunk. IsKey encoding chunk one) dimensionality read chunk of_one is)
    (has_key (λ chunk. IsKey encoding chunk other) dimensionality also chunk of_other is_also)
