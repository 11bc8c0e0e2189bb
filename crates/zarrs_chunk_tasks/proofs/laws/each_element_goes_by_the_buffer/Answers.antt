use Rattle.zarrs_chunk_tasks.proofs.TaskParts.{by_buffer}
use Rattle.zarrs_chunk_tasks.proofs.laws.each_element_goes_by_the_buffer.Goals as goal

pub returns : goal.returns
returns g c = by_buffer
