use Rattle.zarrs_chunk_plan.proofs.Common.{◌≡◌, ◌-◌, suc, arith, sym}
use Rattle.zarrs_chunk_plan.proofs.bytes.RangeStarts.{inner_of_all, one_more_dimension}
use Rattle.zarrs_chunk_plan.proofs.bytes.range_starts.some_starts.Goals as goal

pub returns-in-None : goal.returns-in-None
returns-in-None c =
    let left = c.loop-dimension.dimension - 1 in
    let is : c.loop-dimension.dimension ≡ suc left = omega arith in
    let outer = one_more_dimension c.args.first c.args.counts.now c.args.strides.now left c.requires.lists (omega arith) in
    let was = rw is at c.loop-dimension.invariant in
    let (n, among, past) = rw (c.in-None.is, c.deref.ensures.value, was, sym outer) at c.in_ok-all.ensures in
    (n, (inner_of_all c.args.first c.args.counts.now c.args.strides.now left c.requires.some c.requires.lists).1 n among, past)
