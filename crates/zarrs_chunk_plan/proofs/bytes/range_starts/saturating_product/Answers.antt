use Rattle.zarrs_chunk_plan.proofs.Common.{◌∙◌, ap, min, refl, sym, take, take_all, take_more, greatest, product}
use Rattle.zarrs_chunk_plan.proofs.bytes.RangeStarts.{one_more}
use Rattle.zarrs_chunk_plan.proofs.bytes.range_starts.saturating_product.Goals as goal

pub loop-number-preserved : goal.loop-number-preserved
loop-number-preserved c =
    let numbers = c.args.numbers.now in
    let k = c.loop-number.number-index in
    c.saturating_mul-held.ensures ∙ rw c.loop-number.invariant refl ∙ one_more (take k numbers) _
    ∙ ap (λ xs. min greatest (product xs)) (sym (take_more numbers k 0 c.loop-number-test.true))

pub returns : goal.returns
returns c =
    c.loop-number.invariant
    ∙ ap (λ xs. min greatest (product xs)) (take_all c.loop-number.number-index c.args.numbers.now c.loop-number-test.false)
