use Rattle.std.proofs.Common.{sym, ◌∙◌}
use Rattle.zarrs_chunk_runs.proofs.Forms.{shortest}
use Rattle.zarrs_chunk_runs.proofs.laws.the_run_length_form_is_the_shortest.Goals as goal

pub returns : goal.returns
returns c edges form others is same = shortest form others is.form (same ∙ sym is.same)
