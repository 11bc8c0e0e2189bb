use Rattle.zarrs_chunk_runs.proofs.Digits.{only_so_many, there_are}
use Rattle.zarrs_chunk_runs.proofs.laws.a_number_has_its_binary_digits.Goals as goal

pub returns-clause-some : goal.returns-clause-some
returns-clause-some c = there_are

pub returns-clause-no_others : goal.returns-clause-no_others
returns-clause-no_others c = only_so_many
