-- What a step leaves that sends the text of a plan, in other words.
use Rattle.programs.proofs.chunkplan.Common.{◌≡◌, ◌⊎◌, ℕ, IfOk, IsErrAnd, List, Result, Ok, Err, Vec, inl, inr, refl, ⊎_elim, arith, AllocError}
use Rattle.programs.proofs.chunkplan.Common.{OrMemory, of_refusal, then, Document, Task, Output, RunFault, Memory, Write}
use Rattle.std.specs.declared.alloc.Global.{Global}
use Rattle.zarrs_chunk_base.specs.declared.refusal.Refusal.{Refusal}
use Rattle.zarrs_chunk_base.specs.declared.refusal.Refusal.TheVariants.{Refused, Memory as NoMemory}
use Rattle.programs.specs.chunkplan.Planned.{Array, source_in, text_by, text_of}
use Rattle.programs.specs.chunkplan.seen.Steps.{HasBegun, IsMade, Leaves, StepLeaves}
use Rattle.programs.proofs.chunkplan.Exits.{handed}
use Rattle.programs.proofs.chunkplan.RunOutcomes.{Still, none_of_writing}

module _ (P Q : List ℕ → Type 0) (F G : RunFault → Type 0) (step : (text : List ℕ) → P text → Q text)
    (blames : (fault : RunFault) → F fault → G fault)
    (before after : Output) where
  begun_follows : HasBegun P before after → HasBegun Q before after
  begun_follows (text, is, rest, sends) = (text, step text is, rest, sends)

  pub step_follows : (r : Result (Unit {0}) RunFault) → StepLeaves P F r before after → StepLeaves Q G r before after
  step_follows (Ok u) (text, is, sends, same) = (text, step text is, sends, same)
  step_follows (Err Memory) (same, which) = (same, ⊎_elim inl (λ begun. inr (begun_follows begun)) which)
  step_follows (Err Write) leaves = (leaves.0, begun_follows leaves.1)
  step_follows (Err _) leaves = (leaves.0, leaves.1, blames _ leaves.2)

-- a step that has no fault of its own
pub text_follows : (P Q : List ℕ → Type 0) (G : RunFault → Type 0) → ((text : List ℕ) → P text → Q text) → (before after : Output)
    (r : Result (Unit {0}) RunFault) → StepLeaves P (λ _. ⊥) r before after → StepLeaves Q G r before after
text_follows P Q G step before after r = step_follows P Q (λ _. ⊥) G step (λ _ none. absurd none) before after r

-- a text that was made has what its maker promises
pub made_text : (P : List ℕ → Type 0) (made : Result (Vec ℕ Global) AllocError) → IfOk made (λ text. P text.items) → (text : List ℕ) → IsMade made text
    → P text
made_text P (Ok bytes) has text is = rw is has
made_text P (Err e) has text none = absurd none

-- so has what was sent of it
pub step_made : (P : List ℕ → Type 0) (made : Result (Vec ℕ Global) AllocError) → IfOk made (λ text. P text.items) → (before after : Output)
    (r : Result (Unit {0}) RunFault) → StepLeaves (IsMade made) (λ _. ⊥) r before after → StepLeaves P (λ _. ⊥) r before after
step_made P made has before after r =
    text_follows (IsMade made) P (λ _. ⊥) (made_text P made has) before after r

module _ (P : List ℕ → Type 0) (F : RunFault → Type 0) where
  stops_early : (fault : RunFault) (before : Output) → (¬ F Write) → (fault ≡ Memory) ⊎ F fault → StepLeaves P F (Err fault) before before
  stops_early fault before none which = grind arith

  -- a call's fault before anything was sent
  pub early : {G : Type 0} (r : Result (Unit {0}) RunFault) (fault : RunFault) (before : Output) → IsErrAnd r (λ other. other ≡ fault) → (¬ F Write)
      → (fault ≡ Memory) ⊎ G → (G → F fault) → StepLeaves P F r before before
  early r fault before same none which step =
      rw (handed r fault same) (stops_early fault before none (⊎_elim inl (λ is. inr (step is)) which))

-- what is read first of what is sent then: it was read, or not
module _ {X : Type 0} (first : Result X RunFault → Type 0) (next : X → Result (List ℕ) RunFault → Type 0) (before : Output) where
  pub step_later : (x : X) → first (Ok x) → (after : Output) (r : Result (Unit {0}) RunFault) → Leaves (next x) r before after
      → Leaves (then first next) r before after
  step_later x is after r leaves =
      step_follows (λ text. next x (Ok text)) (λ text. then first next (Ok text)) (λ fault. next x (Err fault)) (λ fault. then first next (Err fault))
      (λ text made. (x, is, made)) (λ fault fails. inr (x, is, fails)) before after r leaves

  pub step_first : Still (λ fault. first (Err fault)) → (r : Result (Unit {0}) RunFault) (fault : RunFault) → IsErrAnd r (λ other. other ≡ fault)
      → (fault ≡ Memory) ⊎ first (Err fault) → Leaves (then first next) r before before
  step_first never r fault same which =
      step_follows (λ text. then first next (Ok text)) (λ text. then first next (Ok text)) (λ fault. first (Err fault))
      (λ fault. then first next (Err fault)) (λ text made. made) (λ fault fails. inl fails) before before r
      (early _ (λ fault. first (Err fault)) r fault before same (none_of_writing (λ fault. first (Err fault)) never) which (λ is. is))

-- so of a document, by what it asks for
pub by_task : (document : Document) (source : Array) (task : Task) → document.task ≡ task → source_in document (Ok source) → (before after : Output)
    (r : Result (Unit {0}) RunFault) → Leaves (text_by document source task) r before after → Leaves (text_of document) r before after
by_task document source task is made before after r leaves =
    step_later (source_in document) (λ source. text_by document source document.task) before source made after r (rw is leaves)

-- what a call's refusal tells is a fault, or memory ran out
pub refused_or : {E : Type 0} (told : E → RunFault) (Is : E → Type 0) (F : RunFault → Type 0) → ((error : E) → Is error → F (told error))
    → (refusal : Refusal E) → OrMemory Is refusal → (of_refusal told refusal ≡ Memory) ⊎ F (of_refusal told refusal)
refused_or told Is F step (Refused error) is = inr (step error is)
refused_or told Is F step (NoMemory _) is = inl refl
