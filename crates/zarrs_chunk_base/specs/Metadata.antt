-- The metadata of an extension: a name, and for some a configuration.
-- Source: Zarr V3 core, extension definition.
use Rattle.std.specs.Prelude.{◌≡◌, ℕ, Bool, List, IsSome, Option, Some, None, unwrap_or, option_map, option_and_then, string_bytes, codes}
use Rattle.std.specs.Option.{option_map_or}
use Rattle.serde_json.specs.Data.{Data, string, object as object_of, Members, no_members, member}
use Rattle.serde_json.specs.Find.{get, as_str, as_object, as_bool}
use Rattle.serde_json.specs.View.{members_view}
use Rattle.zarrs_chunk_base.specs.declared.json.metadata_v3.MetadataV3.{MetadataV3}
use Rattle.zarrs_chunk_base.specs.declared.extension_error.ExtensionError.{ExtensionError}
use Rattle.zarrs_chunk_base.specs.declared.extension_error.ExtensionError.TheVariants.{Create, Metadata}
use Rattle.zarrs_chunk_base.specs.declared.metadata_error.MetadataError.{MetadataError}
use Rattle.zarrs_chunk_base.specs.declared.metadata_error.MetadataError.TheVariants.{NotAnExtension, NameMissing, NameNotText, ConfigurationNotObject}
use Rattle.zarrs_chunk_base.specs.declared.metadata_error.MetadataError.TheVariants.{MustUnderstandNotBool}
use Rattle.zarrs_chunk_base.specs.declared.plugin_create_error.PluginCreateError.{PluginCreateError}

-- an extension's metadata, without where it lies in memory
pub record Extension : Type 0 where
  pub name : List ℕ
  pub configuration : Option Members

-- what a value of the program stands for
abbrev pub extension_of : MetadataV3 → Extension
extension_of m = record { name = string_bytes m.name; configuration = option_map (λ c. members_view c.entries) m.configuration }

-- an absent configuration counts as one without members
abbrev pub configuration_of : Extension → Members
configuration_of e = unwrap_or e.configuration no_members

-- a member that may be absent, and else is of the form
abbrev pub IsOptional : {X : Type 0} → (Data → Option X) → Option Data → Option X → Type 0
IsOptional form None value = value ≡ None
IsOptional form (Some d) value = IsSome value × (form d ≡ value)

-- a member that is there and isn't of the form
abbrev pub IsMisformed : {X : Type 0} → (Data → Option X) → Option Data → Type 0
IsMisformed form None = ⊥
IsMisformed form (Some d) = form d ≡ None

-- an object's name: the member `name`, a text
abbrev pub name_of : Data → Option (List ℕ)
name_of d = option_and_then as_str (get (codes "name") d)

-- A text, which is the name alone; or an object with a name, where `configuration` may be an object
-- and `must_understand` a truth value. Other members say nothing.
pub data IsExtension (d : Data) (e : Extension) : Type 0 where
  name_alone : as_str d ≡ Some e.name → e.configuration ≡ None → IsExtension d e
  object : (must_understand : Option Bool) → name_of d ≡ Some e.name → IsOptional as_object (get (codes "configuration") d) e.configuration
      → IsOptional as_bool (get (codes "must_understand") d) must_understand → IsExtension d e

-- the tree is the metadata of an extension that this is made of
abbrev pub IsMadeOfTree : {X : Type 0} → (Extension → X → Type 0) → Data → X → Type 0
IsMadeOfTree IsMadeOf d x = (e : Extension) × IsExtension d e × IsMadeOf e x

-- how metadata is written: the name alone, or an object with the name and the configuration
abbrev pub extension_tree : Extension → Data
extension_tree e = option_map_or
    (λ c. object_of (member (codes "configuration") (object_of c) (member (codes "name") (string e.name) no_members)))
    e.configuration (string e.name)

-- The first fault of a tree that is no extension's metadata.
abbrev pub IsMetadataFault : Data → MetadataError → Type 0
IsMetadataFault d NotAnExtension = (as_str d ≡ None) × (as_object d ≡ None)
IsMetadataFault d NameMissing = IsSome (as_object d) × (get (codes "name") d ≡ None)
IsMetadataFault d NameNotText = IsSome (get (codes "name") d) × (name_of d ≡ None)
IsMetadataFault d ConfigurationNotObject = IsSome (name_of d) × IsMisformed as_object (get (codes "configuration") d)
IsMetadataFault d MustUnderstandNotBool =
    IsSome (name_of d) × ((c : Option Members) × IsOptional as_object (get (codes "configuration") d) c)
    × IsMisformed as_bool (get (codes "must_understand") d)

-- Why a tree gives nothing: it is no extension's metadata; or the extension is refused.
abbrev pub IsTreeFault : (Extension → PluginCreateError → Type 0) → Data → ExtensionError → Type 0
IsTreeFault IsRefused d (Metadata error) = IsMetadataFault d error
IsTreeFault IsRefused d (Create error) = IsMadeOfTree IsRefused d error
