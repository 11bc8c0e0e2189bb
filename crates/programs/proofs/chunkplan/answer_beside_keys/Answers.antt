use Rattle.programs.proofs.chunkplan.Common.{◌≡◌, ◌≢◌, ◌∙◌, ◌⊎◌, ℕ, List, [], inl, inr, sym, RunFault, Read, Err, subst, document_in, document_of, Memory}
use Rattle.programs.specs.chunkplan.Planned.{text_beside, text_of_line}
use Rattle.programs.proofs.chunkplan.KeyDocuments.{copy_of_lines}
use Rattle.programs.proofs.chunkplan.KeySteps.{read_first, read_later}
use Rattle.programs.proofs.chunkplan.ReadsLast.{fails_later, not_read}
use Rattle.programs.proofs.chunkplan.RunOutcomes.{input_still, none_of_reading}
use Rattle.programs.proofs.chunkplan.answer_beside_keys.Goals as goal

pub write_beside_keys-requires : goal.write_beside_keys-requires
write_beside_keys-requires g c =
    copy_of_lines c.args.line.items (document_of c.in_ok-document.document) (rw c.deref.ensures.value at c.in_ok-document.ensures) c.requires

pub returns-in_err-document-clause-leaves : goal.returns-in_err-document-clause-leaves
returns-in_err-document-clause-leaves g c = λ bytes is.
    let line = c.args.line.items in
    let fault = c.in_err-document.field-0.0 in
    read_first (document_in line) (λ document. text_beside document bytes) _ _ _ (input_still line) _ _ c.from_residual.ensures.1
    (subst (λ bytes. (fault ≡ Memory) ⊎ document_in bytes (Err fault)) c.deref.ensures.value c.in_err-document.ensures)

pub returns-clause-leaves : goal.returns-clause-leaves
returns-clause-leaves g c = λ bytes is.
    read_later (document_in c.args.line.items) (λ document. text_beside document bytes) _ _ _ (document_of c.in_ok-document.document)
    (rw c.deref.ensures.value at c.in_ok-document.ensures) _ _ _ (c.write_beside_keys.ensures.leaves bytes is)

pub returns-clause-keys_last : goal.returns-clause-keys_last
returns-clause-keys_last g c =
    fails_later (document_in c.args.line.items) (λ document. text_beside document []) (document_of c.in_ok-document.document)
    (rw c.deref.ensures.value at c.in_ok-document.ensures) c.write_beside_keys.result c.write_beside_keys.ensures.keys_last

-- a fault of the document's own is none of reading
other_than_read : (line : List ℕ) (fault : RunFault) → (fault ≡ Memory) ⊎ document_in line (Err fault) → fault ≢ Read
other_than_read line fault (inl memory) is = let no : Read ≡ Memory = sym is ∙ memory in cc
other_than_read line fault (inr blamed) is =
    none_of_reading (λ fault. document_in line (Err fault)) (input_still line) (subst (λ fault. document_in line (Err fault)) is blamed)

pub returns-in_err-document-clause-keys_last : goal.returns-in_err-document-clause-keys_last
returns-in_err-document-clause-keys_last g c =
    not_read (text_of_line c.args.line.items []) c.from_residual.result c.in_err-document.field-0.0 c.from_residual.ensures.1
    (other_than_read c.deref.result.now c.in_err-document.field-0.0 c.in_err-document.ensures)
