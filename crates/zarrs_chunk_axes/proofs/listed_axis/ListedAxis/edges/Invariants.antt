use Rattle.std.proofs.Common.{◌≡◌, ◌++◌, drop, map}
use Rattle.std.specs.Int.NonZero.{non_zero_u64_get}
use Rattle.zarrs_chunk_axes.specs.lemmas.Running.{Rises, edges_between}
use Rattle.zarrs_chunk_axes.proofs.listed_axis.ListedAxis.edges.Given as goal

-- the edges so far, and those up to the ends that are left, are the edges of all; and what is left rises
abbrev pub invariant-loop-end : goal.invariant-loop-end
invariant-loop-end l =
    let left = drop l.end-index l.end-items in
    (map non_zero_u64_get l.edges.items ++ edges_between l.start left ≡ edges_between 0 l.end-items) × Rises l.start left
