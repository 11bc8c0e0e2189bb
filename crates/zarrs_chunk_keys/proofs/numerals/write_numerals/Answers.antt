use Rattle.std.proofs.Common.{◌<◌, ◌^◌, ◌∷◌, ◌++◌, decimal, get_or, length, sym, subst, arith}
use Rattle.std.proofs.lemmas.List.{take_more}
use Rattle.zarrs_chunk_keys.specs.Numeral.{IsNumerals}
use Rattle.zarrs_chunk_keys.specs.lemmas.HaveKeys.{IsNumeral-decimal}
use Rattle.zarrs_chunk_keys.proofs.NumeralLemmas.{IsNumerals-push, pushed}
use Rattle.zarrs_chunk_keys.proofs.numerals.write_numerals.Goals as goal

pub loop-number-preserved : goal.loop-number-preserved
loop-number-preserved c =
    let index = c.loop-number.number-index in
    let number = get_or c.args.numbers.now index 0 in
    let fits : number < 2 ^ 64 = omega (arith, c.type_inv.numbers index) in
    let within : index < length c.args.numbers.now = omega arith in
    let (so_far, are_numerals, text) = c.loop-number.invariant in (
      so_far ++ c.args.before ∷ decimal number,
      subst (λ ns. IsNumerals c.args.before ns (so_far ++ c.args.before ∷ decimal number)) (sym (take_more c.args.numbers.now index 0 within))
          (IsNumerals-push c.args.before _ so_far number (decimal number) are_numerals (IsNumeral-decimal number fits)),
      pushed _ so_far _ _ _ _ (decimal number) _ c.args.before text c.in_ok-push.ensures.bytes (c.in_ok-push.ensures.ascii c.requires)
          c.in_ok-push_str.ensures.bytes c.format.ensures.text,
    )
