use Rattle.zarrs_chunk_runs.proofs.Forms.{has_kept_runs}
use Rattle.zarrs_chunk_runs.proofs.laws.runs_are_those_of_the_run_length_form.Goals as goal

pub returns : goal.returns
returns c = has_kept_runs
