use Rattle.std.proofs.Common.{◌≡◌, ◌+◌, ◌≤◌, map, drop}
use Rattle.std.specs.List.{sum}
use Rattle.std.specs.Int.NonZero.{non_zero_u64_get}
use Rattle.zarrs_chunk_base.specs.Greatest.{greatest}
use Rattle.zarrs_chunk_axes.proofs.equal_or.total.Given as goal

-- the total so far and the edges that are left have the sum of all
abbrev pub invariant-loop-edge : goal.invariant-loop-edge
invariant-loop-edge l =
    (l.total ≤ greatest) × (l.total + sum (map non_zero_u64_get (drop l.edge-index l.edges)) ≡ sum (map non_zero_u64_get l.edges))
