-- Why nothing is made of a text of metadata.
use Rattle.std.proofs.Common.{◌≡◌, ◌⊎◌, List, ℕ, Result, IsErrAnd, MatchResult, inl, inr, refl}
use Rattle.std.proofs.lemmas.Result.{err_from_is_err_and}
use Rattle.serde_json.specs.Data.{Data}
use Rattle.zarrs_chunk_base.specs.Json.{IsJsonOf}
use Rattle.zarrs_chunk_base.specs.Refusal.{MatchRefusal, OrMemory}
use Rattle.zarrs_chunk_base.specs.declared.extension_error.ExtensionError.{ExtensionError}
use Rattle.zarrs_chunk_base.specs.declared.refusal.Refusal.{Refusal}
use Rattle.zarrs_chunk_base.specs.declared.refusal.Refusal.TheVariants.{Memory as NoMemory, Refused}
use Rattle.zarrs_chunk_batches.specs.Said.{IsSaidFault, no_extension}
use Rattle.zarrs_chunk_batches.specs.declared.codes.Fault.{Fault}
use Rattle.zarrs_chunk_batches.specs.declared.codes.Fault.TheVariants.{Extension, Memory}

-- the refusal of a tree, as `?` hands it on, tells why nothing is made of its text
pub of_tree : {X : Type 0} (IsOf : X → Type 0) (IsRefused : Data → ExtensionError → Type 0) (text : List ℕ) (tree : Data)
    (refusal : Refusal ExtensionError) (result : Result X Fault) → IsJsonOf text tree → OrMemory (IsRefused tree) refusal
    → IsErrAnd result (λ told. MatchRefusal refusal (λ error. told ≡ Extension error) (λ _. told ≡ Memory))
    → MatchResult result IsOf (λ fault. (fault ≡ Memory) ⊎ IsSaidFault IsRefused text fault)
of_tree IsOf IsRefused text tree (Refused error) result is_json is handed =
    let p = err_from_is_err_and result handed in rw (p.1, p.2) (inr (no_extension error refl tree is_json is))
of_tree IsOf IsRefused text tree (NoMemory error) result is_json is handed =
    let p = err_from_is_err_and result handed in rw (p.1, p.2) (inl refl)
