use Rattle.zarrs_chunk_runs.proofs.Forms.{has_some}
use Rattle.zarrs_chunk_runs.proofs.laws.there_is_a_run.Goals as goal

pub returns : goal.returns
returns c = has_some
