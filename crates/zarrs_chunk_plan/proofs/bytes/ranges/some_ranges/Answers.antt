use Rattle.zarrs_chunk_plan.proofs.Common.{◌≡◌, ◌-◌, suc, arith, drop-cons, non_zero_u64_get}
use Rattle.std.proofs.Math.Seq.{drop-length}
use Rattle.zarrs_chunk_plan.proofs.StridedForms.{too_long}
use Rattle.zarrs_chunk_plan.proofs.MovedBoxes.{within_long, within_starts}
use Rattle.zarrs_chunk_plan.proofs.bytes.ranges.some_ranges.Goals as goal

pub loop-dimension-init : goal.loop-dimension-init
loop-dimension-init c =
    let shapes = within_long _ _ _ c.requires.within in
    let starts = within_starts _ _ _ c.requires.within in
    rw (drop-length c.args.edges.now, ← starts, drop-length c.args.start.now, starts, ← shapes, drop-length c.args.shape.now)
    c.of_an_element-rows.ensures

pub returns-then-not-is_counted : goal.returns-then-not-is_counted
returns-then-not-is_counted c =
    let left = c.loop-dimension.dimension - 1 in
    let is : c.loop-dimension.dimension ≡ suc left = omega arith in
    too_long (non_zero_u64_get c.args.item_size) _ _ _ c.requires.within c.requires.some left c.loop-dimension.rows.row (omega arith) (rw is at c.loop-dimension.invariant.row_is) (c.in_ok-is_counted.ensures.too_long c.if-not-is_counted.true)

pub loop-dimension-preserved : goal.loop-dimension-preserved
loop-dimension-preserved c =
    let shapes = within_long _ _ _ c.requires.within in
    let starts = within_starts _ _ _ c.requires.within in
    let left = c.loop-dimension.dimension - 1 in
    let is : c.loop-dimension.dimension ≡ suc left = omega arith in
    let was = rw is at c.loop-dimension.invariant in
    rw (drop-cons c.args.edges.now left 0 (omega arith), drop-cons c.args.start.now left 0 (omega arith), drop-cons c.args.shape.now left 0 (omega arith))
    (c.in_ok-is_counted.ensures.outer c.if-not-is_counted.false _ _ _ _ was)

pub returns : goal.returns
returns c =
    let ended : c.loop-dimension.dimension ≡ 0 = omega arith in
    let all = rw ended at c.loop-dimension.invariant in
    (rw all.row_is at all.fits, all.form)
