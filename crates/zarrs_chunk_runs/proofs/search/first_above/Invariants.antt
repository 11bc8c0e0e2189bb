use Rattle.std.proofs.Common.{◌≡◌, ◌+◌}
use Rattle.zarrs_chunk_runs.proofs.Halving.{SoFar}
use Rattle.zarrs_chunk_runs.proofs.search.first_above.Given as goal

-- no truth has changed, and those that were asked for leave the `left` places from `low` on
abbrev pub invariant-loop-left : goal.invariant-loop-left
invariant-loop-left g l =
    let begun = l.fn.probe in
    (g.P.Probe.extent l.probe ≡ g.P.Probe.extent begun) × (g.P.Probe.truth l.probe ≡ g.P.Probe.truth begun)
    × SoFar (g.P.Probe.extent begun) (g.P.Probe.truth begun) (g.P.Probe.asked begun) l.low (l.low + l.left) (g.P.Probe.asked l.probe)

abbrev pub decreases-loop-left : goal.decreases-loop-left
decreases-loop-left g l = l.left
