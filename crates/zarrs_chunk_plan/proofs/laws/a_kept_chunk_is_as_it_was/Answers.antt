use Rattle.zarrs_chunk_plan.proofs.resize.ResizeLaws.{kept_place}
use Rattle.zarrs_chunk_plan.proofs.laws.a_kept_chunk_is_as_it_was.Goals as goal

pub returns-clause-place : goal.returns-clause-place
returns-clause-place g c = λ chunk index place. kept_place _ _ chunk index place
