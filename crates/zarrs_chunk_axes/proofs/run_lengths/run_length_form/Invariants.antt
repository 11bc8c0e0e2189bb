use Rattle.std.proofs.Common.{◌-◌, length, map}
use Rattle.zarrs_chunk_base.specs.RunLength.{element_of}
use Rattle.zarrs_chunk_runs.specs.seen.RunEdges.{runs_of}
use Rattle.zarrs_chunk_axes.proofs.RunLengthForms.{SoFar}
use Rattle.zarrs_chunk_axes.proofs.run_lengths.run_length_form.Given as goal

-- there is an element for each of the first runs
abbrev pub invariant-loop-edge : goal.invariant-loop-edge
invariant-loop-edge l = SoFar (runs_of l.edges) (map element_of l.elements.items)

-- the runs that are left
abbrev pub decreases-loop-edge : goal.decreases-loop-edge
decreases-loop-edge l = length (runs_of l.edges) - length l.elements.items
