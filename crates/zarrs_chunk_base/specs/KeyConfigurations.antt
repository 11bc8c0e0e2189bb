-- The configurations of chunk key encodings.
-- Sources: Zarr V3 core, chunk key encodings; the extension `zarrs.default_suffix`.
use Rattle.std.specs.Prelude.{ℕ, if◌then◌else◌, List, [], ◌∷◌, bytes_eq, Option, Some, None, option_and_then, option_map, codes, string_bytes}
use Rattle.serde_json.specs.Data.{Data, string, Members, no_members, member}
use Rattle.serde_json.specs.Find.{as_str}
use Rattle.zarrs_chunk_base.specs.ChunkKeySeparator.{separator_byte}
use Rattle.zarrs_chunk_base.specs.Configuration.{Table, optional, required, value_of, value_or}
use Rattle.zarrs_chunk_base.specs.declared.chunk_key_separator.ChunkKeySeparator.{ChunkKeySeparator}
use Rattle.zarrs_chunk_base.specs.declared.chunk_key_separator.ChunkKeySeparator.TheVariants.{Slash, Dot}
use Rattle.zarrs_chunk_base.specs.declared.json.default_suffix_configuration.DefaultSuffixChunkKeyEncodingConfiguration.{
  DefaultSuffixChunkKeyEncodingConfiguration,
}

-- the text of a separator: its byte alone
abbrev pub separator_text : ChunkKeySeparator → List ℕ
separator_text separator = separator_byte separator ∷ []

-- the separator that is the whole of a text
abbrev pub separator_in : Data → Option ChunkKeySeparator
separator_in d = option_and_then (λ text. if bytes_eq text (separator_text Slash) then Some Slash
    else (if bytes_eq text (separator_text Dot) then Some Dot else None)) (as_str d)

-- how a separator is written
abbrev pub separator_tree : ChunkKeySeparator → Data
separator_tree separator = string (separator_text separator)

-- ---- `default` and `v2`: `separator`, the text `/` or `.`; where it is absent, `/` for `default` and `.` for `v2`

abbrev pub separator_table : Table
separator_table = record { members = optional (codes "separator") separator_in ∷ []; expected = codes "`separator`" }

-- the separator that the members stand for
abbrev pub default_value : Members → Option ChunkKeySeparator
default_value = value_or Slash (codes "separator") separator_in

abbrev pub v2_value : Members → Option ChunkKeySeparator
v2_value = value_or Dot (codes "separator") separator_in

-- the members that a separator is written as
abbrev pub separator_members : ChunkKeySeparator → Members
separator_members separator = member (codes "separator") (separator_tree separator) no_members

-- ---- `zarrs.default_suffix`: `separator` as for `default`, and `suffix`, a text

abbrev pub suffix_table : Table
suffix_table = record {
  members = optional (codes "separator") separator_in ∷ required (codes "suffix") as_str ∷ [];
  expected = codes "`separator` or `suffix`";
}

-- a separator and the bytes of a suffix
pub record Suffixed : Type 0 where
  pub separator : ChunkKeySeparator
  pub suffix : List ℕ

-- what the members stand for
abbrev pub suffix_value : Members → Option Suffixed
suffix_value members = option_and_then
    (λ separator. option_map (λ suffix. record { separator = separator; suffix = suffix }) (value_of (codes "suffix") as_str members))
    (default_value members)

-- the members that the two are written as
abbrev pub suffix_members : Suffixed → Members
suffix_members s = member (codes "separator") (separator_tree s.separator) (member (codes "suffix") (string s.suffix) no_members)

-- what a configuration is seen as
abbrev pub suffix_configuration_of : DefaultSuffixChunkKeyEncodingConfiguration → Suffixed
suffix_configuration_of c = record { separator = c.separator; suffix = string_bytes c.suffix }
