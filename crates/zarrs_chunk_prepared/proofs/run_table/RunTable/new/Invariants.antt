use Rattle.std.proofs.Common.{◌≡◌, ◌-◌, ◌≤◌, length, take}
use Rattle.std.specs.List.{sum}
use Rattle.zarrs_chunk_prepared.specs.seen.RunTable.{IsRunTable}
use Rattle.zarrs_chunk_runs.specs.Runs.{edges_of_runs}
use Rattle.zarrs_chunk_runs.specs.seen.RunEdges.{runs_of}
use Rattle.zarrs_chunk_prepared.proofs.run_table.RunTable.new.Given as goal

-- the table of the runs so far, and where the next one begins
abbrev pub invariant-loop-edge : goal.invariant-loop-edge
invariant-loop-edge l = record {
  within : length l.table.starts.items ≤ length (runs_of l.edges);
  so_far : IsRunTable (runs_of l.edges) (length l.table.starts.items) l.table.starts.items l.table.chunks.items l.table.edges.items;
  is_start : l.start ≡ sum (edges_of_runs (take (length l.table.starts.items) (runs_of l.edges)));
  is_chunk : l.chunk ≡ length (edges_of_runs (take (length l.table.starts.items) (runs_of l.edges)));
}

-- how many runs are left
abbrev pub decreases-loop-edge : goal.decreases-loop-edge
decreases-loop-edge l = length (runs_of l.edges) - length l.table.starts.items
