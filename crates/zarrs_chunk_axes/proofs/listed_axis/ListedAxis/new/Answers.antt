use Rattle.std.proofs.Common.{map}
use Rattle.std.specs.Int.NonZero.{non_zero_u64_get}
use Rattle.zarrs_chunk_axes.proofs.ListedAxes.{between_are, ends_rise}
use Rattle.zarrs_chunk_axes.specs.seen.ListedEdges.{listed_from_is_made}
use Rattle.zarrs_chunk_axes.proofs.listed_axis.ListedAxis.new.Goals as goal

pub invariant_of-result : goal.invariant_of-result
invariant_of-result c =
    let edges = c.args.edges.now in
    let ends = c.in_ok-ends.ensures in
    record { rising = rw ends (ends_rise 0 edges); covers = rw (ends, between_are 0 (map non_zero_u64_get edges)) c.requires.covers }

pub returns-clause-made : goal.returns-clause-made
returns-clause-made c =
    let edges = map non_zero_u64_get c.args.edges.now in
    rw (c.in_ok-ends.ensures, between_are 0 edges) (listed_from_is_made c.args.array_size edges)

pub returns-clause-edges : goal.returns-clause-edges
returns-clause-edges c = rw c.in_ok-ends.ensures (between_are 0 (map non_zero_u64_get c.args.edges.now))
