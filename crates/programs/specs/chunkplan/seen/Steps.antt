-- What a step leaves that sends the text of a plan.
use Rattle.std.specs.Prelude.{◌≡◌, ◌⊎◌}
use Rattle.programs.specs.chunkplan.Common.{ℕ, Bool, true, false, List, [], IsOkAnd, Option, Some, Result, Ok, Err, Vec, Global, RunFault, Memory}
use Rattle.programs.specs.chunkplan.Common.{Read, Write}
use Rattle.std.specs.declared.alloc.AllocError.{AllocError}
use Rattle.programs.specs.chunkplan.Keys.{HasKeysBehind, first_line}
use Rattle.programs.specs.chunkplan.Planned.{IsPlanOf}
use Rattle.streams.specs.seen.Sent.{Output, Sends}

-- the text that was made, if there was memory for it
abbrev pub IsMade : Result (Vec ℕ Global) AllocError → List ℕ → Type 0
IsMade made text = IsOkAnd made (λ bytes. text ≡ bytes.items)

-- a text of which Planned holds was sent, or a beginning of it
abbrev pub HasBegun : (Planned : List ℕ → Type 0) → Output → Output → Type 0
HasBegun Planned before after = (text : List ℕ) × Planned text × (rest : List ℕ) × Sends before text after.holds rest

-- such a text was sent, or is held back, and no write failed meanwhile
abbrev pub HasSent : (Planned : List ℕ → Type 0) → Output → Output → Type 0
HasSent Planned before after = (text : List ℕ) × Planned text × Sends before text after.holds after.held_back × (after.failed ≡ before.failed)

-- By the outcome of the step: such a text was sent, or is held back; memory ran out before or meanwhile; a write failed; or there is another
-- fault, of which IsFault holds, and nothing was sent.
abbrev pub StepLeaves : (Planned : List ℕ → Type 0) (IsFault : RunFault → Type 0) → Result (Unit {0}) RunFault → Output → Output → Type 0
StepLeaves Planned IsFault (Ok _) before after = HasSent Planned before after
StepLeaves Planned IsFault (Err Memory) before after =
    (after.failed ≡ before.failed) × ((after.holds ≡ before.holds) ⊎ HasBegun Planned before after)
StepLeaves Planned IsFault (Err Write) before after = (after.failed ≡ true) × HasBegun Planned before after
StepLeaves Planned IsFault (Err fault) before after =
    (after.failed ≡ before.failed) × (after.holds ≡ before.holds) × IsFault fault

-- so of a text, or the first fault of one that isn't sent
abbrev pub Leaves : (Result (List ℕ) RunFault → Type 0) → Result (Unit {0}) RunFault → Output → Output → Type 0
Leaves text = StepLeaves (λ t. text (Ok t)) (λ fault. text (Err fault))

-- What a step leaves that reads before it sends, by its outcome. If a read failed, nothing was sent. Otherwise it leaves what a step does that sends,
-- and nothing was left to read when it began to send.
abbrev pub ReadStepLeaves : (Planned : List ℕ → Type 0) (IsFault : RunFault → Type 0) → Result (Unit {0}) RunFault
    → (read_before read_after : Bool) (left : Option (List ℕ)) → Output → Output → Type 0
ReadStepLeaves Planned IsFault (Ok u) read_before read_after left before after =
    (read_after ≡ read_before) × (left ≡ Some []) × StepLeaves Planned IsFault (Ok u) before after
ReadStepLeaves Planned IsFault (Err Read) read_before read_after left before after =
    (read_after ≡ true) × (after.failed ≡ before.failed) × (after.holds ≡ before.holds)
ReadStepLeaves Planned IsFault (Err Write) read_before read_after left before after =
    (read_after ≡ read_before) × (left ≡ Some []) × StepLeaves Planned IsFault (Err Write) before after
ReadStepLeaves Planned IsFault (Err fault) read_before read_after left before after =
    (read_after ≡ read_before) × StepLeaves Planned IsFault (Err fault) before after

-- so of a text, or the first fault of one that isn't sent
abbrev pub ReadLeaves : (Result (List ℕ) RunFault → Type 0) → Result (Unit {0}) RunFault → (read_before read_after : Bool) (left : Option (List ℕ))
    → Output → Output → Type 0
ReadLeaves text = ReadStepLeaves (λ t. text (Ok t)) (λ fault. text (Err fault))

-- so of one that reads an input and sends its plan; keys after a document are left if that has a fault
abbrev pub InputStepLeaves : (input : List ℕ) → Result (Unit {0}) RunFault → (read_failed : Bool) (left : Option (List ℕ)) → Output → Output → Type 0
InputStepLeaves input r read_failed left before after =
    ReadStepLeaves (λ text. IsPlanOf input (Ok text))
    (λ fault. ((¬ HasKeysBehind (first_line input)) → left ≡ Some []) × IsPlanOf input (Err fault)) r false read_failed left before after
