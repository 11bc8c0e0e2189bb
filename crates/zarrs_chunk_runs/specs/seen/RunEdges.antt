-- How edges kept as runs are seen: as one list of runs.
use Rattle.std.specs.Prelude.{ℕ, List, map}
use Rattle.zarrs_chunk_runs.specs.Runs.{edges_of_runs, run_of}
use Rattle.zarrs_chunk_runs.specs.declared.run_edges.RunEdges.{RunEdges}

-- the runs: each an edge, and how many chunks in a row have it
abbrev pub runs_of : RunEdges → List (ℕ × ℕ)
runs_of edges = map run_of edges.runs.items

-- the edges that they stand for, one for each chunk
abbrev pub expanded : RunEdges → List ℕ
expanded edges = edges_of_runs (runs_of edges)
