use Rattle.zarrs_chunk_plan.proofs.Common.{◌≡◌, ◌∙◌, ◌-◌, ◌^◌, length, refl, arith, take-length, row_major}
use Rattle.zarrs_chunk_plan.proofs.ByNumber.{counted_more}
use Rattle.zarrs_chunk_plan.proofs.shares.numbered_chunks.long_count.Goals as goal

pub loop-size-init : goal.loop-size-init
unfolding row_major
loop-size-init c = refl

pub loop-size-preserved : goal.loop-size-preserved
loop-size-preserved c =
    c.saturating_mul-count.ensures
    ∙ counted_more c.args.shape.now c.loop-size.size-index c.loop-size.count (2 ^ 128 - 1) c.loop-size-test.true c.loop-size.invariant

pub returns : goal.returns
returns c =
    let all : c.loop-size.size-index ≡ length c.args.shape.now = omega arith in
    c.loop-size.invariant ∙ rw (all, take-length c.args.shape.now) refl
