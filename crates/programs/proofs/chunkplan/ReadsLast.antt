-- When a step reads that sends the text of a plan.
use Rattle.programs.proofs.chunkplan.Common.{◌≡◌, ◌≢◌, ℕ, List, refl, IsErrAnd, Result, Ok, Err, Share, then, Document}
use Rattle.programs.proofs.chunkplan.Common.{StorageMetadata, Copying, copy_to, lines_wanted, RunFault, Read}
use Rattle.programs.specs.chunkplan.Planned.{Array, beside_by, copy_beside, source_in, target_in, target_shape, text_beside}
use Rattle.programs.specs.chunkplan.seen.Reads.{ReadFailsAfter}
use Rattle.programs.proofs.chunkplan.Exits.{handed}

module _ (P : Result (List ℕ) RunFault → Type 0) where
  -- there is a text, and so a read may fail
  pub may_read : ((text : List ℕ) × P (Ok text)) → (r : Result (Unit {0}) RunFault) → ReadFailsAfter P r
  may_read has (Err Read) = has
  may_read has (Err _) = tt
  may_read has (Ok _) = tt

  none_of : (fault : RunFault) → fault ≢ Read → ReadFailsAfter P (Err fault)
  none_of Read other = absurd (other refl)
  none_of _ other = tt

  -- another fault is handed on
  pub not_read : (r : Result (Unit {0}) RunFault) (fault : RunFault) → IsErrAnd r (λ other. other ≡ fault) → fault ≢ Read → ReadFailsAfter P r
  not_read r fault same other = rw (handed r fault same) (none_of fault other)

module _ (P Q : Result (List ℕ) RunFault → Type 0) (step : (text : List ℕ) → P (Ok text) → Q (Ok text)) where
  pub fails_follow : (r : Result (Unit {0}) RunFault) → ReadFailsAfter P r → ReadFailsAfter Q r
  fails_follow (Err Read) (text, is) = (text, step text is)
  fails_follow (Err _) fails = tt
  fails_follow (Ok _) fails = tt

-- what is read first of what is sent then
pub fails_later : {X : Type 0} (first : Result X RunFault → Type 0) (next : X → Result (List ℕ) RunFault → Type 0) (x : X) → first (Ok x)
    → (r : Result (Unit {0}) RunFault) → ReadFailsAfter (next x) r → ReadFailsAfter (then first next) r
fails_later first next x is = fails_follow (next x) (then first next) (λ text made. (x, is, made))

-- what a document asks for of it
pub fails_of_share : (document : Document) (source : Array) (stored : StorageMetadata) (copying : Copying) (share : Share) → source_in document (Ok source)
    → document.task ≡ copy_to stored copying → document.wanted ≡ lines_wanted share → (bytes : List ℕ) (r : Result (Unit {0}) RunFault)
    → ReadFailsAfter (then (target_in stored (target_shape copying.selection document.shape)) (copy_beside copying share bytes source)) r
    → ReadFailsAfter (text_beside document bytes) r
fails_of_share document source stored copying share made is_task is_share bytes r fails =
    fails_later (source_in document) (beside_by document bytes document.wanted document.task) source made r (rw (is_share, is_task) fails)
