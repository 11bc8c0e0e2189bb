use Rattle.programs.proofs.chunkplan.Common.{◌≡◌, ◌∙◌, ◌+◌, ◌*◌, ◌/◌, ◌%◌, ap, drop, slice_index_or, arith, drop_more}
use Rattle.programs.proofs.chunkplan.Common.{value, value_with}
use Rattle.programs.proofs.chunkplan.Digits.{carried, digits_pushed, value_pushed}
use Rattle.programs.proofs.chunkplan.product.times.Goals as goal

pub loop-digit-preserved : goal.loop-digit-preserved
loop-digit-preserved c =
    let (are, small, is) = c.loop-digit.invariant in
    let digits = c.args.digits.now in
    let k = c.loop-digit.digit-index in
    let one = slice_index_or digits k 0 in
    let last = c.digit_times-one.result.0 in
    let next = c.digit_times-one.result.1 in
    let said = c.digit_times-one.ensures in
    let so_far = rw (drop_more digits k 0 c.loop-digit-test.true) at is in (
      rw c.in_ok-push.ensures.items (digits_pushed c.loop-digit.more.items last are said.last),
      said.carried,
      rw c.in_ok-push.ensures.items
          (carried c.loop-digit.more.items c.loop-digit.carry c.args.factor one (value (drop (k + 1) digits)) last next (c.args.factor * value digits)
          said.value so_far),
    )

pub loop-carry-preserved : goal.loop-carry-preserved
loop-carry-preserved c =
    let (are, is) = c.loop-carry.invariant in
    let carry = c.loop-carry.carry in
    let more = c.loop-carry.more.items in
    let same : carry % 10 + 10 * (carry / 10) ≡ carry = omega arith in (
      rw c.in_ok-push-2.ensures.items (digits_pushed more (carry % 10) are (omega arith)),
      rw c.in_ok-push-2.ensures.items (value_pushed more (carry % 10) (carry / 10) ∙ ap (value_with more) same ∙ is),
    )
