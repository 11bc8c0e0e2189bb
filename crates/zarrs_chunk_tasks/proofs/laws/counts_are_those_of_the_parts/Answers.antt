use Rattle.zarrs_chunk_tasks.proofs.TaskParts.{met_by_parts}
use Rattle.zarrs_chunk_tasks.proofs.laws.counts_are_those_of_the_parts.Goals as goal

pub returns : goal.returns
returns g c = λ elements met parts. met_by_parts _ _ elements met parts
