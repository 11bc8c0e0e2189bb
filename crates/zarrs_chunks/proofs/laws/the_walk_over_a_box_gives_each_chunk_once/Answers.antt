use Rattle.zarrs_chunks.proofs.ChunksInBoxes.{are_those_inside, chunks_in_order, chunks_once}
use Rattle.zarrs_chunks.proofs.laws.the_walk_over_a_box_gives_each_chunk_once.Goals as goal

pub returns-clause-each : goal.returns-clause-each
returns-clause-each c = are_those_inside

pub returns-clause-in_order : goal.returns-clause-in_order
returns-clause-in_order c = chunks_in_order

pub returns-clause-once : goal.returns-clause-once
returns-clause-once c = chunks_once
