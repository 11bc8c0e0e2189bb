use Rattle.zarrs_chunk_axes.proofs.RowMajorOrder.{are_those_below, each_once, in_order}
use Rattle.zarrs_chunk_axes.proofs.row_major.row_major_gives_each_list_once.Goals as goal

pub returns-clause-each : goal.returns-clause-each
returns-clause-each c = are_those_below

pub returns-clause-in_order : goal.returns-clause-in_order
returns-clause-in_order c = in_order

pub returns-clause-once : goal.returns-clause-once
returns-clause-once c = each_once
