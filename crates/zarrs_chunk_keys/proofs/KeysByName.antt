-- Encodings are made again of their metadata.
use Rattle.std.proofs.Common.{◌≡◌, refl, sym, ◌∙◌}
use Rattle.zarrs_chunk_base.specs.Kinds.{IsMetadata}
use Rattle.zarrs_chunk_base.specs.Metadata.{Extension}
use Rattle.zarrs_chunk_base.specs.declared.plugin_create_error.PluginCreateError.{PluginCreateError}
use Rattle.zarrs_chunk_base.specs.lemmas.Fitting.{default_fits, suffix_fits, v2_fits}
use Rattle.zarrs_chunk_base.proofs.KindsByName as kinds
use Rattle.zarrs_chunk_keys.specs.ChunkKey.{Encoding}
use Rattle.zarrs_chunk_keys.specs.KeyKinds.{IsEncoding, IsEncodingFault, KeyKind, default, default_suffix, key_kind, key_kinds, kind_of, v2}

-- each kind is found by its name
are_found : kinds.AreFound key_kind key_kinds
are_found default = refl
are_found v2 = refl
are_found default_suffix = refl

-- what members stand for fits its kind's table
fits : (kind : KeyKind) → kinds.Fits (key_kind kind)
fits default = default_fits
fits v2 = v2_fits
fits default_suffix = suffix_fits

-- one encoding is made of what is said
one_encoding : (kind : KeyKind) (encoding other : Encoding) (x : (key_kind kind).Said) → (key_kind kind).makes encoding tt x
    → (key_kind kind).makes other tt x → other ≡ encoding
one_encoding default encoding other x is also = also ∙ sym is
one_encoding v2 encoding other x is also = also ∙ sym is
one_encoding default_suffix encoding other x is also = also ∙ sym is

-- the metadata of an encoding are never refused
pub never_refused : (encoding : Encoding) (e : Extension) → IsMetadata (key_kind (kind_of encoding)) tt encoding e → (error : PluginCreateError)
    → ¬ IsEncodingFault e error
never_refused encoding e is error = kinds.never_refused key_kind key_kinds are_found fits (kind_of encoding) tt encoding e error is

-- and what is made of them is the same encoding
pub is_again : (encoding again : Encoding) (e : Extension) → IsMetadata (key_kind (kind_of encoding)) tt encoding e
    → IsEncoding e again → again ≡ encoding
is_again encoding again e is (kind, made) =
    let (_, (x, makes, makes_again)) = kinds.made_again key_kind key_kinds are_found (kind_of encoding) kind tt encoding again e is made in
    one_encoding (kind_of encoding) encoding again x makes makes_again
