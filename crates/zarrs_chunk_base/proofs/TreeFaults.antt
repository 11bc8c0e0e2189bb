-- Why nothing is made of a tree that is an extension's metadata.
use Rattle.std.proofs.Common.{◌≡◌, Result, IsErrAnd, MatchResult}
use Rattle.std.proofs.lemmas.Result.{err_from_is_err_and}
use Rattle.serde_json.specs.Data.{Data}
use Rattle.zarrs_chunk_base.specs.Metadata.{Extension, IsExtension, IsTreeFault}
use Rattle.zarrs_chunk_base.specs.Refusal.{MatchRefusal, OrMemory}
use Rattle.zarrs_chunk_base.specs.declared.extension_error.ExtensionError.{ExtensionError}
use Rattle.zarrs_chunk_base.specs.declared.extension_error.ExtensionError.TheVariants.{Create}
use Rattle.zarrs_chunk_base.specs.declared.plugin_create_error.PluginCreateError.{PluginCreateError}
use Rattle.zarrs_chunk_base.specs.declared.refusal.Refusal.{Refusal}
use Rattle.zarrs_chunk_base.specs.declared.refusal.Refusal.TheVariants.{Memory, Refused}

-- the refusal of an extension, as `?` hands it on, tells why nothing is made of its tree
pub of_extension : {X : Type 0} (IsOf : X → Type 0) (IsRefused : Extension → PluginCreateError → Type 0) (tree : Data) (e : Extension)
    (refusal : Refusal PluginCreateError) (result : Result X (Refusal ExtensionError)) → IsExtension tree e → OrMemory (IsRefused e) refusal
    → IsErrAnd result (λ handed. MatchRefusal refusal (λ error. handed ≡ Refused (Create error)) (λ error. handed ≡ Memory error))
    → MatchResult result IsOf (OrMemory (IsTreeFault IsRefused tree))
of_extension IsOf IsRefused tree e (Refused error) result is_said is handed =
    let p = err_from_is_err_and result handed in rw (p.1, p.2) (e, is_said, is)
of_extension IsOf IsRefused tree e (Memory error) result is_said is handed =
    let p = err_from_is_err_and result handed in rw (p.1, p.2) tt
