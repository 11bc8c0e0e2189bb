use Rattle.std.proofs.Common.{sym, ◌∙◌}
use Rattle.zarrs_chunk_runs.proofs.Forms.{only_one, there_is_one}
use Rattle.zarrs_chunk_runs.proofs.laws.edges_have_one_run_length_form.Goals as goal

pub returns-clause-there_is_one : goal.returns-clause-there_is_one
returns-clause-there_is_one c = there_is_one

pub returns-clause-no_other : goal.returns-clause-no_other
returns-clause-no_other c edges one other is is' = only_one one other is.form is'.form (is.same ∙ sym is'.same)
