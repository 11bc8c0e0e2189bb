use Rattle.std.proofs.Common.{◌≡◌, ◌⊎◌, Ok, Err, inl, inr, refl, subst, ⊎_elim}
use Rattle.std.proofs.lemmas.Result.{MatchResult-weaker}
use Rattle.documents.specs.chunkwhere.Document.{document_in, document_of}
use Rattle.documents.specs.chunkwhere.Run.{text_of}
use Rattle.documents.specs.chunkwhere.RunFault.{of_document}
use Rattle.documents.specs.declared.document_fault.DocumentFault.TheVariants.{Memory}
use Rattle.documents.proofs.Readings.{stops_told}
use Rattle.documents.proofs.chunkwhere.answer_input.Goals as goal

pub returns-in_err-document : goal.returns-in_err-document
returns-in_err-document c =
    let fault = c.in_err-document.field-0.0 in
    stops_told _ (text_of c.args.input.items) _ of_document _ c.from_residual.ensures.1 _
    (subst (λ bytes. (fault ≡ Memory) ⊎ document_in bytes (Err fault)) c.deref.ensures.value c.in_err-document.ensures) (λ is. inl (_, is, refl))

pub returns : goal.returns
returns c =
    let document = document_of c.in_ok-document.document in
    let read = subst (λ bytes. document_in bytes (Ok document)) c.deref.ensures.value c.in_ok-document.ensures in
    MatchResult-weaker c.answer.result c.answer.ensures (λ text answers. (document, read, answers))
    (λ fault. ⊎_elim inl (λ is. inr (inr (document, read, is))))
