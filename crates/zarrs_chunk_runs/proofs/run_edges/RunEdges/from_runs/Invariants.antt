use Rattle.std.proofs.Common.{◌≡◌, ◌+◌, ◌++◌, drop, map}
use Rattle.std.specs.List.{sum}
use Rattle.zarrs_chunk_runs.specs.Runs.{run_of}
use Rattle.zarrs_chunk_runs.specs.lemmas.Running.{chunk_ends_of, count_of_run, ends_of, running, size_of}
use Rattle.zarrs_chunk_runs.proofs.run_edges.RunEdges.from_runs.Given as goal

-- the sums so far, and those of the runs that are left, are all; and what is summed up so far and what is left have the sum of all
abbrev pub invariant-loop-edge : goal.invariant-loop-edge
invariant-loop-edge l =
    let all = map run_of l.edge-items in
    let left = map run_of (drop l.edge-index l.edge-items) in
    (l.ends.items ++ running l.end (map size_of left) ≡ ends_of all)
    × (l.chunk_ends.items ++ running l.chunk_end (map count_of_run left) ≡ chunk_ends_of all)
    × (l.end + sum (map size_of left) ≡ sum (map size_of all))
    × (l.chunk_end + sum (map count_of_run left) ≡ sum (map count_of_run all))
