use Rattle.zarrs_chunk_plan.proofs.resize.ResizeLaws.{in_both, stays, stays_in_place}
use Rattle.zarrs_chunk_plan.proofs.laws.each_element_stays_in_its_chunk.Goals as goal

pub returns-clause-chunk : goal.returns-clause-chunk
returns-clause-chunk g c = λ resized. stays _ _ resized

pub returns-clause-place : goal.returns-clause-place
returns-clause-place g c = λ resized. stays_in_place _ _ resized

pub returns-clause-what : goal.returns-clause-what
returns-clause-what g c = λ chunk index. in_both _ _ chunk index
