use Rattle.std.proofs.Common.{◌≡◌, ◌<◌, ◌++◌, drop, length, map}
use Rattle.zarrs_chunk_base.specs.RunLength.{expansion}
use Rattle.zarrs_chunk_runs.specs.Runs.{AreMerged, edges_of_runs, run_of}
use Rattle.zarrs_chunk_runs.proofs.elements.merge.Given as goal

-- the edges of the runs so far, and those that are left, are all; no two neighbours have the same edge; where there was an element, there is a run
abbrev pub invariant-loop-element : goal.invariant-loop-element
invariant-loop-element l =
    (edges_of_runs (map run_of l.runs.items) ++ expansion (drop l.element-index l.elements) ≡ expansion l.elements)
    × AreMerged (map run_of l.runs.items) × (0 < l.element-index → 0 < length l.runs.items)
