use Rattle.zarrs_chunk_plan.proofs.StridedForms.{form_tells}
use Rattle.zarrs_chunk_plan.proofs.laws.byte_ranges_have_the_bytes_of_the_box.Goals as goal

pub returns : goal.returns
returns c = λ item any_item order edges start shape found same. (form_tells item any_item order edges start shape found same).0
