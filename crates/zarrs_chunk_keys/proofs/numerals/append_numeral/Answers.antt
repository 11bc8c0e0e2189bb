use Rattle.std.proofs.Common.{◌<◌, ◌^◌, ◌++◌, ◌∙◌, decimal, ap, string_bytes, arith}
use Rattle.zarrs_chunk_keys.specs.lemmas.HaveKeys.{IsNumeral-decimal}
use Rattle.zarrs_chunk_keys.proofs.numerals.append_numeral.Goals as goal

pub returns-clause-appended : goal.returns-clause-appended
returns-clause-appended c =
    let fits : c.args.number < 2 ^ 64 = omega (arith, c.ranges.number.fits) in (
      decimal c.args.number,
      IsNumeral-decimal c.args.number fits,
      c.in_ok-push_str.ensures.bytes ∙ ap (λ t. string_bytes c.args.text.now ++ t) c.format.ensures.text,
    )
