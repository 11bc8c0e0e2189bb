use Rattle.std.proofs.Common.{◌≡◌, ◌∙◌, ◌∷◌, ◌++◌, ◌+◌, ◌-◌, ◌<◌, [], take, drop, get_or, length, length-drop, ap, drop-cons, subst, sym, suc, arith}
use Rattle.std.proofs.lemmas.List.{take_all}
use Rattle.zarrs_chunk_keys.specs.Numeral.{more_digits, one_digit}
use Rattle.zarrs_chunk_keys.specs.lemmas.Parts.{EndsBefore}
use Rattle.zarrs_chunk_keys.proofs.FirstNumeral.{begins_text, further, zero_ends}
use Rattle.zarrs_chunk_keys.proofs.NumeralDigits.{cut_before, cut_behind}
use Rattle.zarrs_chunk_keys.proofs.read_numerals.first_number.Goals as goal

pub returns-in_err-number : goal.returns-in_err-number
returns-in_err-number c =
    rw c.from_residual-in_err-number.ensures
    (λ n numeral rest fits is same ends.
    let (d, small, first) =
    begins_text n c.in_ok-first.first.now c.in_ok-first.others.now numeral rest is (sym c.in_ok-first.ensures.cases.0 ∙ same) in
    c.in_err-number.ensures d small first)

pub loop-i-init : goal.loop-i-init
loop-i-init c =
    let first = c.in_ok-number.ensures in
    record { fits = omega arith; is_numeral = rw c.in_ok-first.ensures.cases.0 (one_digit first.0 (ap (λ c. c ∷ []) first.1)) }

pub returns-then-byte-separator : goal.returns-then-byte-separator
returns-then-byte-separator c =
    let others = c.in_ok-first.others.now in
    let i = c.loop-i.i in
    let text = c.args.text.now in
    let within : i < length others = omega arith in
    let cut = cut_before text c.in_ok-first.first.now others i c.in_ok-first.ensures.cases.0 within in
    let from_here : take (length others - i) (drop i others) ≡ get_or others i 0 ∷ drop (suc i) others =
    take_all (length others - i) (drop i others) (omega (arith, length-drop i others)) ∙ drop-cons others i 0 within
    in (
      c.loop-i.invariant.fits,
      (
        take (i + 1) text,
        c.loop-i.invariant.is_numeral,
        cut ∙ ap (λ t. take (i + 1) text ++ t) (sym from_here),
        subst (EndsBefore c.args.separator) (sym from_here) c.if-byte-separator.true,
      ),
    )

pub returns-then-number-eq0 : goal.returns-then-number-eq0
returns-then-number-eq0 c = λ n numeral rest fits is same ends.
    let others = c.in_ok-first.others.now in
    let i = c.loop-i.i in
    let text = c.args.text.now in
    let within : i < length others = omega arith in
    let cut = cut_before text c.in_ok-first.first.now others i c.in_ok-first.ensures.cases.0 within in
    zero_ends c.args.separator c.loop-i.number n (get_or others i 0) (take (i + 1) text)
    (drop (suc i) others) numeral rest c.requires c.if-byte-separator.false
    c.loop-i.invariant.is_numeral c.if-number-eq0.true is (sym cut ∙ same) ends

pub returns-in_err-number-2 : goal.returns-in_err-number-2
returns-in_err-number-2 c =
    rw c.from_residual-in_err-number-2.ensures
    (λ n numeral rest fits is same ends.
    let others = c.in_ok-first.others.now in
    let i = c.loop-i.i in
    let text = c.args.text.now in
    let within : i < length others = omega arith in
    let cut = cut_before text c.in_ok-first.first.now others i c.in_ok-first.ensures.cases.0 within in
    let (d, small, is_digit, least) =
    further c.args.separator c.loop-i.number n (get_or others i 0) (take (i + 1) text) (drop (suc i) others) numeral rest c.requires
    c.if-byte-separator.false c.loop-i.invariant.is_numeral is (sym cut ∙ same) ends
    in
    let past = c.in_err-number-2.ensures d small is_digit in
    absurd (omega arith))

pub loop-i-preserved : goal.loop-i-preserved
loop-i-preserved c =
    let others = c.in_ok-first.others.now in
    let i = c.loop-i.i in
    let text = c.args.text.now in
    let within : i < length others = omega arith in
    let (d, small, is_digit, value) = c.in_ok-number-2.ensures.1 in
    let other = c.if-number-eq0.false in
    let some : 0 < c.loop-i.number = omega (arith, other) in
    let cut = cut_behind text c.in_ok-first.first.now others i c.in_ok-first.ensures.cases.0 within in
    record {
      fits = c.in_ok-number-2.ensures.0;
      is_numeral = more_digits c.loop-i.invariant.is_numeral some small value (cut ∙ ap (λ c. take (i + 1) text ++ c ∷ []) is_digit);
    }
