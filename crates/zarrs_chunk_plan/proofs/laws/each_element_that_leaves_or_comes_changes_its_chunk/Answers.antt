use Rattle.zarrs_chunk_plan.proofs.resize.ResizeLaws.{asked_of_coming, asked_of_leaving, coming, leaving}
use Rattle.zarrs_chunk_plan.proofs.laws.each_element_that_leaves_or_comes_changes_its_chunk.Goals as goal

pub returns-clause-leaves : goal.returns-clause-leaves
returns-clause-leaves g c = λ chunk index. leaving _ _ chunk index

pub returns-clause-comes : goal.returns-clause-comes
returns-clause-comes g c = λ chunk index. coming _ _ chunk index

pub returns-clause-leaves_asked : goal.returns-clause-leaves_asked
returns-clause-leaves_asked g c = λ chunk index. asked_of_leaving _ _ chunk index

pub returns-clause-comes_asked : goal.returns-clause-comes_asked
returns-clause-comes_asked g c = λ chunk index. asked_of_coming _ _ chunk index
