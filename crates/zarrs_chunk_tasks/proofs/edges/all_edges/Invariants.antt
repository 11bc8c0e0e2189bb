use Rattle.std.proofs.Common.{take}
use Rattle.std.specs.List.{AllZip}
use Rattle.zarrs_chunk_tasks.specs.seen.TriedEdges.{IsRow, rows_of_edges}
use Rattle.zarrs_chunk_tasks.proofs.edges.all_edges.Given as goal

-- there is a row for each dimension so far
abbrev pub invariant-loop-along : goal.invariant-loop-along
invariant-loop-along l = AllZip IsRow (take l.along-index l.units) (rows_of_edges l.rows.items)
