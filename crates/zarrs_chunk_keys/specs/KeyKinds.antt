-- The kinds of chunk key encodings: which configurations each accepts, and which encoding it makes of them.
-- Sources: Zarr V3 core, chunk key encodings; the extension `zarrs.default_suffix`.
use Rattle.std.specs.Prelude.{◌≡◌, List, [], ◌∷◌, codes}
use Rattle.serde_json.specs.Data.{Data}
use Rattle.zarrs_chunk_base.specs.declared.chunk_key_separator.ChunkKeySeparator.{ChunkKeySeparator}
use Rattle.zarrs_chunk_base.specs.declared.extension_error.ExtensionError.{ExtensionError}
use Rattle.zarrs_chunk_base.specs.declared.plugin_create_error.PluginCreateError.{PluginCreateError}
use Rattle.zarrs_chunk_base.specs.KeyConfigurations.{Suffixed, default_value, separator_members, separator_table, suffix_members, suffix_table}
use Rattle.zarrs_chunk_base.specs.KeyConfigurations.{suffix_value, v2_value}
use Rattle.zarrs_chunk_base.specs.Kinds.{IsFault, IsMade, Kind}
use Rattle.zarrs_chunk_base.specs.Metadata.{Extension, IsMadeOfTree, IsTreeFault}
use Rattle.zarrs_chunk_base.specs.StoreKey.{EndsInSlash}
use Rattle.zarrs_chunk_keys.specs.ChunkKey.{Encoding, default_keys, suffixed_keys, v2_keys}

-- the kinds
pub data KeyKind : Type 0 where
  default : KeyKind
  v2 : KeyKind
  default_suffix : KeyKind

-- What each kind is. Nothing is given beside the metadata. A key doesn't end in a slash, and so a suffix doesn't; nothing is said
-- of the text that refuses one.
abbrev pub key_kind : KeyKind → Kind (Unit {0}) Encoding
key_kind default = record {
  name = codes "default";
  Said = ChunkKeySeparator;
  table = separator_table;
  value = default_value;
  written = separator_members;
  is_written = λ _. Unit {0};
  accepts = λ _ _. Unit {0};
  makes = λ encoding _ separator. encoding ≡ default_keys separator;
  refuses = λ _. ⊥;
}
key_kind v2 = record {
  name = codes "v2";
  Said = ChunkKeySeparator;
  table = separator_table;
  value = v2_value;
  written = separator_members;
  is_written = λ _. Unit {0};
  accepts = λ _ _. Unit {0};
  makes = λ encoding _ separator. encoding ≡ v2_keys separator;
  refuses = λ _. ⊥;
}
key_kind default_suffix = record {
  name = codes "zarrs.default_suffix";
  Said = Suffixed;
  table = suffix_table;
  value = suffix_value;
  written = suffix_members;
  is_written = λ _. Unit {0};
  accepts = λ _ s. ¬ EndsInSlash s.suffix;
  makes = λ encoding _ s. encoding ≡ suffixed_keys s.separator s.suffix;
  refuses = λ _. Unit {0};
}

-- the kinds, in the order in which a name is sought among them
abbrev pub key_kinds : List KeyKind
key_kinds = default ∷ v2 ∷ default_suffix ∷ []

-- the kind of an encoding
abbrev pub kind_of : Encoding → KeyKind
kind_of (default_keys _) = default
kind_of (v2_keys _) = v2
kind_of (suffixed_keys _ _) = default_suffix

-- the encoding that the kind of the extension's name makes
abbrev pub IsEncoding : Extension → Encoding → Type 0
IsEncoding e encoding = IsMade key_kind e tt encoding

-- why metadata gives no encoding
abbrev pub IsEncodingFault : Extension → PluginCreateError → Type 0
IsEncodingFault e fault = IsFault key_kind key_kinds e tt fault

-- the encoding that a tree is the metadata of
abbrev pub IsEncodingIn : Data → Encoding → Type 0
IsEncodingIn = IsMadeOfTree IsEncoding

-- why a tree is the metadata of none
abbrev pub IsNoEncodingIn : Data → ExtensionError → Type 0
IsNoEncodingIn = IsTreeFault IsEncodingFault
