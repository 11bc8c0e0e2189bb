-- How calls end.
use Rattle.std.proofs.Common.{◌≡◌, ◌⊎◌, ℕ, ◌<◌, ◌≤◌, List, length, take, Result, Ok, Err, IfErr, IsOk, MatchResult, OnOk, inl, inr, ⊎_elim, subst}
use Rattle.std.proofs.Common.{sym, arith}
use Rattle.zarrs_chunk_batches.specs.Batch.{IsTooLong, IsWhole}
use Rattle.zarrs_chunk_batches.specs.Calls.{Call, IsEndFor, IsEndOf, Request, early, late, no_metadata}
use Rattle.zarrs_chunk_batches.specs.Codes.{End}
use Rattle.zarrs_chunk_batches.specs.declared.codes.Fault.{Fault}
use Rattle.zarrs_chunk_batches.specs.declared.codes.Fault.TheVariants.{Memory, Short}

module _ {X : Type 0} (call : Call X) where
  -- after the faults of the metadata and the lengths
  pub ends_with : (x : X) (end : End) → call.Says x → call.Fits x
      → MatchResult end (λ _. call.Answers x) (λ fault. (fault ≡ Memory) ⊎ call.Refuses x fault) → IsEndOf call end
  ends_with x (Ok _) says fits answers = (x, says, fits, answers)
  ends_with x (Err fault) says fits refused = ⊎_elim (λ memory. inl memory) (λ is. inr (late x says fits is)) refused

  -- as the making of the X did
  pub ends_as : {T : Type 0} (x : T → X) (made : Result T Fault) (end : End) (A : Type 0)
      → MatchResult made (λ t. call.Says (x t)) (λ fault. (fault ≡ Memory) ⊎ call.Misses fault) → ((x : X) → call.Fits x)
      → MatchResult made (λ _. IsOk end) (λ fault. MatchResult end (λ _. ⊥) (λ told. (told ≡ Memory) ⊎ (told ≡ fault)))
      → OnOk end A → ((x : X) → A → call.Answers x) → IsEndOf call end
  ends_as x (Ok t) (Ok _) A says fits as_made is answers = (x t, says, fits (x t), answers (x t) is)
  ends_as x (Ok t) (Err _) A says fits as_made is answers = cc
  ends_as x (Err fault) (Ok _) A misses fits as_made is answers = absurd as_made
  ends_as x (Err fault) (Err told) A misses fits as_made is answers =
      ⊎_elim (λ memory. inl memory) (λ same. rw same (⊎_elim (λ memory. inl memory) (λ missed. inr (early (no_metadata missed))) misses)) as_made

-- a text that was written to the front of its buffer, or is longer than it
pub in_front : (P : List ℕ → Type 0) (text buffer : List ℕ) (needed : ℕ) (end : End) → needed ≡ length text → P text
    → OnOk end (length text ≤ length buffer) → OnOk end (take (length text) buffer ≡ text)
    → IfErr end (λ fault. (fault ≡ Short) × (length buffer < length text))
    → MatchResult end (λ _. IsWhole P buffer needed) (λ fault. (fault ≡ Memory) ⊎ ((fault ≡ Short) × IsTooLong P buffer needed))
in_front P text buffer needed (Ok _) told is fits written short =
    (omega arith, subst P (sym (subst (λ n. take n buffer ≡ text) (sym told) written)) is)
in_front P text buffer needed (Err fault) told is fits written (is_short, less) = inr (is_short, (text, is, told, omega arith))

-- of what a call ensures of its answer
pub both : (end : End) (A B : Type 0) → OnOk end A → OnOk end B → OnOk end (A × B)
both (Ok _) A B a b = (a, b)
both (Err _) A B a b = tt

-- after the faults of the lengths, of a given X
pub ends_for : {X : Type 0} (request : Request X) (x : X) (end : End) → request.Fits x
    → MatchResult end (λ _. request.Answers x) (λ fault. (fault ≡ Memory) ⊎ request.Refuses x fault) → IsEndFor request x end
ends_for request x (Ok _) fits answers = (fits, answers)
ends_for request x (Err fault) fits refused = ⊎_elim (λ memory. inl memory) (λ is. inr (inr (fits, is))) refused
