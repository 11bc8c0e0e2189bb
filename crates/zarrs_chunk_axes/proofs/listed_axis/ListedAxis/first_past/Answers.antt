use Rattle.std.proofs.Common.{leb, rules, sym, tests}
use Rattle.std.proofs.lemmas.List.Sorted.{IsPartitionedBy-leb, IsPartitionPoint-from_clause}
use Rattle.zarrs_chunk_axes.proofs.ListedAxes.{ends_are, ends_are_in_order, is_first_past}
use Rattle.zarrs_chunk_axes.specs.lemmas.Running.{ends_from}
use Rattle.zarrs_chunk_axes.specs.seen.ListedAxis.{edges_in}
use Rattle.zarrs_chunk_axes.proofs.listed_axis.ListedAxis.first_past.Goals as goal

pub returns : goal.returns
returns c =
    let axis = c.args.self.now in
    let index = c.args.index in
    let edges = edges_in axis in
    let ends = sym (ends_are 0 axis.ends.items axis.rising) in
    let split = IsPartitionPoint-from_clause (λ e. leb e index) (ends_from 0 edges) c.partition_point.result
    (rw (c.deref.ensures.value, ends) at c.partition_point.ensures.partitioned)
    (IsPartitionedBy-leb (λ x. x) (ends_from 0 edges) index (ends_are_in_order edges)) (λ a r f' k. search (rules, tests)) in
    is_first_past edges index _ (rw (c.deref.ensures.value, ends) at c.partition_point.ensures.bound) split.0 split.1
