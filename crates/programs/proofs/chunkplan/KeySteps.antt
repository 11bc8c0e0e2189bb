-- What a step leaves that reads before it sends.
use Rattle.programs.proofs.chunkplan.Common.{◌≡◌, ◌⊎◌, ℕ, Bool, List, [], IsErrAnd, Option, Some, Result, Ok, Err, inl, inr, refl, ⊎_elim}
use Rattle.programs.proofs.chunkplan.Common.{IsFirstNoText, then, Output, RunFault, KeyNotText, Memory, Read, Write}
use Rattle.programs.specs.chunkplan.seen.Resume.{IsKeysStop}
use Rattle.programs.specs.chunkplan.seen.Steps.{ReadLeaves, ReadStepLeaves, StepLeaves}
use Rattle.programs.proofs.chunkplan.Exits.{handed}
use Rattle.programs.proofs.chunkplan.RunOutcomes.{Still, none_of_reading, none_of_writing}
use Rattle.programs.proofs.chunkplan.Steps.{step_follows}

module _ (P : List ℕ → Type 0) (F : RunFault → Type 0) (start : Bool) (left : Option (List ℕ)) (before : Output) where
  module _ (no_read : ¬ F Read) (no_write : ¬ F Write) where
    stops_early : (fault : RunFault) → (fault ≡ Memory) ⊎ F fault → ReadStepLeaves P F (Err fault) start start left before before
    stops_early fault (inl is) = rw is (refl, (refl, inl refl))
    stops_early Read (inr is) = absurd (no_read is)
    stops_early Write (inr is) = absurd (no_write is)
    stops_early Memory (inr is) = (refl, (refl, inl refl))
    stops_early _ (inr is) = (refl, (refl, refl, is))

    -- a call's fault before any key was read, and before anything was sent
    pub early_beside : {G : Type 0} (r : Result (Unit {0}) RunFault) (fault : RunFault) → IsErrAnd r (λ other. other ≡ fault) → (fault ≡ Memory) ⊎ G
        → (G → F fault) → ReadStepLeaves P F r start start left before before
    early_beside r fault same which step = rw (handed r fault same) (stops_early fault (⊎_elim inl (λ is. inr (step is)) which))

  -- reading the keys stopped
  pub noting_stops : (bytes : List ℕ) (fault : RunFault) (read : Bool) → IsKeysStop fault (Some bytes) start read
      → ((number : ℕ) → IsFirstNoText 2 bytes number → F (KeyNotText number)) → ReadStepLeaves P F (Err fault) start read left before before
  noting_stops bytes Read read stops blames = (stops, refl, refl)
  noting_stops bytes Memory read stops blames = (stops, (refl, inl refl))
  noting_stops bytes (KeyNotText number) read stops blames = (stops.0, (refl, refl, blames number stops.1))
  noting_stops bytes _ read stops blames = absurd stops

  -- all was read, and then a text is sent
  pub after_reading : ¬ F Read → (after : Output) (read : Bool) → read ≡ start → left ≡ Some [] → (r : Result (Unit {0}) RunFault)
      → StepLeaves P F r before after → ReadStepLeaves P F r start read left before after
  after_reading none after read same end (Ok _) leaves = (same, end, leaves)
  after_reading none after read same end (Err Read) leaves = absurd (none leaves.2)
  after_reading none after read same end (Err Write) leaves = (same, end, leaves)
  after_reading none after read same end (Err _) leaves = (same, leaves)

-- what a step leaves, in other words
module _ (P Q : List ℕ → Type 0) (F G : RunFault → Type 0) (step : (text : List ℕ) → P text → Q text)
    (blames : (fault : RunFault) → F fault → G fault) (start read : Bool) (left : Option (List ℕ)) (before after : Output) where
  pub read_step_follows : (r : Result (Unit {0}) RunFault) → ReadStepLeaves P F r start read left before after
      → ReadStepLeaves Q G r start read left before after
  read_step_follows (Ok u) leaves = (leaves.0, leaves.1, step_follows P Q F G step blames before after (Ok u) leaves.2)
  read_step_follows (Err Read) leaves = leaves
  read_step_follows (Err Write) leaves = (leaves.0, leaves.1, step_follows P Q F G step blames before after (Err Write) leaves.2)
  read_step_follows (Err fault) leaves = (leaves.0, step_follows P Q F G step blames before after (Err fault) leaves.1)

-- what is read first of what is sent then: it was read, or not
module _ {X : Type 0} (first : Result X RunFault → Type 0) (next : X → Result (List ℕ) RunFault → Type 0) (start : Bool) (left : Option (List ℕ))
    (before : Output) where
  pub read_later : (x : X) → first (Ok x) → (after : Output) (read : Bool) (r : Result (Unit {0}) RunFault)
      → ReadLeaves (next x) r start read left before after → ReadLeaves (then first next) r start read left before after
  read_later x is after read r leaves =
      read_step_follows (λ text. next x (Ok text)) (λ text. then first next (Ok text)) (λ fault. next x (Err fault))
      (λ fault. then first next (Err fault)) (λ text made. (x, is, made)) (λ fault fails. inr (x, is, fails)) start read left before after r leaves

  pub read_first : Still (λ fault. first (Err fault)) → (r : Result (Unit {0}) RunFault) (fault : RunFault) → IsErrAnd r (λ other. other ≡ fault)
      → (fault ≡ Memory) ⊎ first (Err fault) → ReadLeaves (then first next) r start start left before before
  read_first never r fault same which =
      read_step_follows (λ text. then first next (Ok text)) (λ text. then first next (Ok text)) (λ fault. first (Err fault))
      (λ fault. then first next (Err fault)) (λ text made. made) (λ fault fails. inl fails) start start left before before r
      (early_beside _ (λ fault. first (Err fault)) start left before (none_of_reading (λ fault. first (Err fault)) never)
      (none_of_writing (λ fault. first (Err fault)) never) r fault same which (λ is. is))
