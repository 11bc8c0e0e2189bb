use Rattle.std.proofs.Common.{◌≡◌, ◌∷◌, ◌++◌, ◌∙◌, ap, append_assoc, refl, string_bytes, subst, sym}
use Rattle.zarrs_chunk_keys.specs.Numeral.{AreJoined}
use Rattle.zarrs_chunk_keys.proofs.numerals.write_joined.Goals as goal

pub returns-in_ok-write_numerals-clause-appended : goal.returns-in_ok-write_numerals-clause-appended
returns-in_ok-write_numerals-clause-appended c =
    let (numeral, is, begun) = c.in_ok-append_numeral.ensures.appended in
    let (numerals, are, longer) = c.in_ok-write_numerals.ensures.appended in
    let parts : c.args.numbers.now ≡ c.in-Some.first.now ∷ c.in-Some.others.now = c.in-Some.ensures.cases.0 in (
      numeral ++ numerals,
      subst (λ numbers. AreJoined c.args.between numbers (numeral ++ numerals)) (sym parts) (numeral, numerals, is, are, refl),
      longer ∙ ap (λ text. text ++ numerals) begun ∙ append_assoc (string_bytes c.args.text.now) numeral numerals,
    )
