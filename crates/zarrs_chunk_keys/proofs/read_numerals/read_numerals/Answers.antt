use Rattle.std.proofs.Common.{[], ◌∙◌, ap, length, refl, subst, sym}
use Rattle.zarrs_chunk_base.specs.ChunkKeySeparator.{separator_byte}
use Rattle.zarrs_chunk_base.specs.Greatest.{AllFit}
use Rattle.zarrs_chunk_keys.specs.Numeral.{IsNumerals}
use Rattle.zarrs_chunk_keys.proofs.ReadKeys.{begins_with, empty, no_text}
use Rattle.zarrs_chunk_keys.proofs.read_numerals.read_numerals.Goals as goal
use Rattle.zarrs_chunk_keys.proofs.read_numerals.read_numerals.Goals.{then-count-eq0, else-count-eq0}

pub returns-in_default : goal.returns-in_default
returns-in_default c =
    let b = separator_byte c.args.separator in
    let text = c.args.text.now in
    let none = empty text c.in_default.ensures.cases in
    elim c.if-count-eq0.branch [
      | then-count-eq0 w ↦
          rw (w.result-is, none) (
            ap length w.new.ensures.items ∙ sym w.if-count-eq0.true,
            subst AllFit (sym w.new.ensures.items) tt,
            subst (λ numbers. IsNumerals b numbers []) (sym w.new.ensures.items) refl,
          )
      | else-count-eq0 w ↦
          rw (w.result-is, none) (λ numbers fit lengths are. w.if-count-eq0.false (sym lengths ∙ no_text b numbers are))
    ]

pub returns-then-first-as_char : goal.returns-then-first-as_char
returns-then-first-as_char c = λ numbers fit lengths are.
    c.if-first-as_char.true
    (begins_with (separator_byte c.args.separator) numbers c.args.text.now c.in-Some.first.now c.in-Some.numerals.now c.in-Some.ensures.cases.0 are
    ∙ sym c.as_char.ensures)
