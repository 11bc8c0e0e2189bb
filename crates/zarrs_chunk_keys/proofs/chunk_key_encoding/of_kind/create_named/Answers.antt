use Rattle.std.proofs.Common.{◌≡◌, Result, Ok, Err, MatchResult, refl}
use Rattle.zarrs_chunk_base.specs.Kinds.{IsFaultOf, IsMadeOf}
use Rattle.zarrs_chunk_base.specs.Metadata.{Extension, extension_of}
use Rattle.zarrs_chunk_base.specs.Refusal.{OrMemory}
use Rattle.zarrs_chunk_base.specs.declared.plugin_create_error.PluginCreateError.{PluginCreateError}
use Rattle.zarrs_chunk_base.specs.declared.refusal.Refusal.{Refusal}
use Rattle.zarrs_chunk_base.proofs.KindsByName.{handed_on}
use Rattle.zarrs_chunk_keys.specs.ChunkKey.{Encoding}
use Rattle.zarrs_chunk_keys.specs.KeyKinds.{IsEncoding, IsEncodingFault, KeyKind, key_kind, key_kinds}
use Rattle.zarrs_chunk_keys.proofs.chunk_key_encoding.of_kind.create_named.Goals as goal

-- what the kind of the extension's name makes is made of the extension, and its refusal is that of the extension
of_name : {E : Type 0} (kind : KeyKind) (encoding : E → Encoding) (e : Extension) (answer : Result E (Refusal PluginCreateError))
    → e.name ≡ (key_kind kind).name
    → MatchResult answer (λ made. IsMadeOf (key_kind kind) e tt (encoding made)) (OrMemory (IsFaultOf (key_kind kind) e tt))
    → MatchResult answer (λ made. IsEncoding e (encoding made)) (OrMemory (IsEncodingFault e))
of_name kind encoding e (Ok made) name is = (kind, (name, is))
of_name kind encoding e (Err refusal) name refused =
    handed_on key_kind key_kinds (λ made. IsEncoding e (encoding made)) kind tt e refusal (Err refusal) name refused refl

pub returns : goal.returns
returns g c = of_name g.E.EncodingOfKind.kind g.E.EncodingOfKind.encoding (extension_of c.args.metadata.now) _ c.requires c.of_metadata.ensures
