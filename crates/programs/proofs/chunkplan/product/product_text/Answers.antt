use Rattle.programs.proofs.chunkplan.Common.{◌∙◌, ◌*◌, ap, slice_index_or, sym, take, take_more, product, value}
use Rattle.programs.proofs.chunkplan.Digits.{product_pushed}
use Rattle.programs.proofs.chunkplan.product.product_text.Goals as goal

pub loop-factor-preserved : goal.loop-factor-preserved
loop-factor-preserved c =
    let factors = c.args.factors.now in
    let k = c.loop-factor.factor-index in
    let factor = slice_index_or factors k 0 in
    let (are, is) = c.loop-factor.invariant in (
      c.in_ok-digits-2.ensures.digits,
      c.in_ok-digits-2.ensures.value ∙ ap (λ ds. factor * value ds) c.deref.ensures.value ∙ ap (λ n. factor * n) is
          ∙ sym (product_pushed (take k factors) factor) ∙ ap product (sym (take_more factors k 0 c.loop-factor-test.true)),
    )
