use Rattle.programs.proofs.chunkplan.Common.{inr, refl, document_of}
use Rattle.programs.specs.chunkplan.Planned.{of_document, text_unless, whole_in}
use Rattle.programs.proofs.chunkplan.Inputs.{keys_refused, unless_keys, whole_sent}
use Rattle.programs.proofs.chunkplan.RunOutcomes.{whole_still}
use Rattle.programs.proofs.chunkplan.Steps.{step_first, step_later}
use Rattle.programs.proofs.chunkplan.answer.Goals as goal

pub returns-in_err-document : goal.returns-in_err-document
returns-in_err-document g c = λ none.
    let input = c.args.input.items in
    whole_sent input _ _ _ none
    (step_first (whole_in input) (λ document. text_unless document.keys document) _ (whole_still input) _ _ c.from_residual.ensures.1
    (rw c.deref.ensures.value at c.in_err-document.ensures))

pub returns-then-document : goal.returns-then-document
returns-then-document g c = λ none.
    let document = document_of c.in_ok-document.document in
    (refl, refl, of_document none (inr (document, rw c.deref.ensures.value at c.in_ok-document.ensures, keys_refused _ document c.if-document.true)))

pub returns : goal.returns
returns g c = λ none.
    let input = c.args.input.items in
    let document = document_of c.in_ok-document.document in
    whole_sent input _ _ _ none
    (step_later (whole_in input) (λ document. text_unless document.keys document) _ document (rw c.deref.ensures.value at c.in_ok-document.ensures) _ _
    (unless_keys _ document c.if-document.false _ _ _ c.write_plan.ensures))
