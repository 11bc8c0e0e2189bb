-- What a step leaves that reads an input and sends its plan.
use Rattle.programs.proofs.chunkplan.Common.{◌≡◌, Bool, true, false, true≢false, ℕ, List, [], Option, Some, Result, Ok, Err, refl, sym, then, Document}
use Rattle.programs.proofs.chunkplan.Common.{HasKeysBehind, behind_first, first_line, Output, RunFault, KeysOfLongDocument}
use Rattle.programs.specs.chunkplan.Planned.{IsPlanOf, of_document, of_keys, text_of, text_of_line, text_unless, whole_in}
use Rattle.programs.specs.chunkplan.seen.Steps.{InputStepLeaves, Leaves, ReadLeaves}
use Rattle.programs.proofs.chunkplan.KeySteps.{after_reading, read_step_follows}
use Rattle.programs.proofs.chunkplan.RunOutcomes.{none_of_reading, plan_still}
use Rattle.programs.proofs.chunkplan.Steps.{step_follows}

-- ---- whether keys are wanted of a whole document

pub unless_keys : (keys : Bool) (document : Document) → keys ≡ false → (before after : Output) (r : Result (Unit {0}) RunFault)
    → Leaves (text_of document) r before after → Leaves (text_unless keys document) r before after
unless_keys false document is before after r leaves = leaves
unless_keys true document is before after r leaves = absurd (true≢false is)

pub keys_refused : (keys : Bool) (document : Document) → keys ≡ true → text_unless keys document (Err KeysOfLongDocument)
keys_refused true document is = refl
keys_refused false document is = absurd (true≢false (sym is))

module _ (input : List ℕ) where
  abbrev Text : List ℕ → Type 0
  Text text = IsPlanOf input (Ok text)

  abbrev Whole : Result (List ℕ) RunFault → Type 0
  Whole = then (whole_in input) (λ document. text_unless document.keys document)

  abbrev OfLine : Result (List ℕ) RunFault → Type 0
  OfLine = text_of_line (first_line input) (behind_first input)

  pub whole_sent : (before after : Output) (r : Result (Unit {0}) RunFault) → (¬ HasKeysBehind (first_line input)) → Leaves Whole r before after
      → Leaves (IsPlanOf input) r before after
  whole_sent before after r none leaves =
      step_follows (λ text. Whole (Ok text)) Text (λ fault. Whole (Err fault)) (λ fault. IsPlanOf input (Err fault))
      (λ text is. of_document none is) (λ fault is. of_document none is) before after r leaves

  module _ (read : Bool) (left : Option (List ℕ)) (before after : Output) (r : Result (Unit {0}) RunFault) where
    abbrev IsFault : RunFault → Type 0
    IsFault fault = ((¬ HasKeysBehind (first_line input)) → left ≡ Some []) × IsPlanOf input (Err fault)

    -- all was read, and then the plan was sent
    pub sent_after_reading : read ≡ false → left ≡ Some [] → Leaves (IsPlanOf input) r before after → InputStepLeaves input r read left before after
    sent_after_reading not_read end leaves =
        after_reading Text IsFault false left before (λ is. none_of_reading (λ fault. IsPlanOf input (Err fault)) (plan_still input) is.1) after read
        not_read end r (step_follows Text Text (λ fault. IsPlanOf input (Err fault)) IsFault (λ text is. is) (λ fault is. (λ _. end, is)) before after r leaves)

    -- so beside keys
    pub sent_beside_keys : HasKeysBehind (first_line input) → (start : Bool) → start ≡ false → ReadLeaves OfLine r start read left before after
        → InputStepLeaves input r read left before after
    sent_beside_keys has start not_read leaves =
        read_step_follows (λ text. OfLine (Ok text)) Text (λ fault. OfLine (Err fault)) IsFault (λ text is. of_keys has is)
        (λ fault is. (λ none. absurd (none has), of_keys has is)) false read left before after r (rw not_read at leaves)
