use Rattle.std.proofs.Common.{◌≡◌, ◌+◌, ◌++◌, map, drop}
use Rattle.std.specs.List.{sum}
use Rattle.std.specs.Int.NonZero.{non_zero_u64_get}
use Rattle.zarrs_chunk_axes.specs.lemmas.Running.{ends_from}
use Rattle.zarrs_chunk_axes.proofs.listed_axis.ends_of.Given as goal

-- the ends so far, and those of the edges that are left, are the ends of all; and so are the sums
abbrev pub invariant-loop-edge : goal.invariant-loop-edge
invariant-loop-edge l =
    let left = map non_zero_u64_get (drop l.edge-index l.edges) in
    let all = map non_zero_u64_get l.edges in
    (l.ends.items ++ ends_from l.end left ≡ ends_from 0 all) × (l.end + sum left ≡ sum all)
