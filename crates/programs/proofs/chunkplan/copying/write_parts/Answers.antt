use Rattle.programs.proofs.chunkplan.Common.{◌≡◌, ◌∙◌, ℕ, suc, List, [], ◌∷◌, ◌++◌, Err, ap, refl, arith, counted, Part, at_first, at_last, one_more}
use Rattle.programs.proofs.chunkplan.Common.{text_as, Output, written, sends_nothing}
use Rattle.programs.specs.chunkplan.seen.Opened.{dimensions_in, key_in}
use Rattle.zarrs_chunk_questions.proofs.PartsAhead.{parts_ahead}
use Rattle.programs.proofs.chunkplan.Exits.{handed}
use Rattle.programs.proofs.chunkplan.Numbered.{IsLineOf, way_ends, way_goes_on, way_memory, way_stops}
use Rattle.programs.proofs.chunkplan.Steps.{made_text, text_follows}
use Rattle.programs.proofs.chunkplan.copying.write_parts.Goals as goal

pub loop-part-init : goal.loop-part-init
loop-part-init g c = λ begin is_first. (
  begin,
  is_first,
  (
    [],
    (
      [],
      at_first dimensions_in key_in c.args.walk c.into_iter-part-iterator.result []
          c.into_iter-part-iterator.ensures.into_iter_gives refl c.requires.meet,
      omega arith,
      refl,
    ),
    sends_nothing (written g.W.Write.contents c.args.sink.now),
    refl,
  ),
)

pub loop-part-preserved : goal.loop-part-preserved
loop-part-preserved g c = λ begin is_first.
    let (n, number_is, sent) = c.loop-part.invariant begin is_first in
    let part = c.in_ok-part.field-0 in
    let gives = rw c.in_ok-part.was at c.in-Some.ensures.steps in
    let (text, made, more, failed) = c.in_ok-send_text.ensures in
    let is = made_text (λ text. text ≡ text_as c.args.form c.loop-part.number part) c.part_text.result c.part_text.ensures text made in (
      suc n,
      c.next_number-number.ensures n number_is,
      way_goes_on (λ n. text_as c.args.form (counted n)) begin _ _ (λ _. ⊥) (λ p. p ≡ part) n _ _ _ sent
          (λ came p have same. one_more dimensions_in key_in c.args.walk c.loop-part.part-iterator c.next.new.self part came (came ++ p ∷ []) have gives
          (rw same refl))
          (text, (part, refl, is ∙ ap (λ number. text_as c.args.form number part) number_is), more, failed),
    )

-- ---- where it stops

pub returns-in_err-part : goal.returns-in_err-part
returns-in_err-part g c = λ begin is_first.
    let (n, number_is, sent) = c.loop-part.invariant begin is_first in
    rw (handed _ _ c.from_residual.ensures.1)
    (way_memory (λ n. text_as c.args.form (counted n)) begin _ _ n _ _ sent
    (parts_ahead c.args.walk c.requires.is_box c.loop-part.part-iterator))

pub returns-in_err-send_text : goal.returns-in_err-send_text
returns-in_err-send_text g c = λ begin is_first.
    let (n, number_is, sent) = c.loop-part.invariant begin is_first in
    let part = c.in_ok-part.field-0 in
    let gives = rw c.in_ok-part.was at c.in-Some.ensures.steps in
    let between : Output = written g.W.Write.contents c.loop-part.sink in
    let after : Output = written g.W.Write.contents c.send_text.new.sink in
    let Line : ℕ → Part → List ℕ = λ n. text_as c.args.form (counted n) in
    let of_number = ap (λ number. text_as c.args.form number part) number_is in
    let ahead = parts_ahead c.args.walk c.requires.is_box in
    rw (handed _ _ c.from_residual-in_err-send_text.ensures.1)
    (way_stops Line begin _ _ _ (λ p. p ≡ part) n _ _ _ sent
    (λ came p have same. one_more dimensions_in key_in c.args.walk c.loop-part.part-iterator c.next.new.self part came (came ++ p ∷ []) have gives
    (rw same refl))
    (ahead c.loop-part.part-iterator) (ahead c.next.new.self) _
    (text_follows _ (IsLineOf Line begin (λ p. p ≡ part) n) (λ _. ⊥)
    (λ text made. (part, refl, made_text (λ text. text ≡ text_as c.args.form c.loop-part.number part) c.part_text.result c.part_text.ensures text made ∙ of_number))
    between after (Err _) c.in_err-send_text.ensures))

pub returns : goal.returns
returns g c = λ begin is_first.
    let (n, number_is, sent) = c.loop-part.invariant begin is_first in
    way_ends (λ n. text_as c.args.form (counted n)) begin _ _ n _ _ sent
    (λ came have. at_last dimensions_in key_in c.args.walk c.loop-part.part-iterator c.next.new.self came
    have c.in-None.ensures.steps)
