use Rattle.zarrs_chunk_keys.proofs.KeysByName.{is_again, never_refused}
use Rattle.zarrs_chunk_keys.proofs.laws.an_encoding_is_made_again_of_its_metadata.Goals as goal

pub returns-clause-accepted : goal.returns-clause-accepted
returns-clause-accepted c = never_refused

pub returns-clause-same : goal.returns-clause-same
returns-clause-same c = is_again
