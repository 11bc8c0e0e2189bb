-- Kinds of extensions: what their metadata stands for, by the extension's name.
-- Source: Zarr V3 core, extension definition.
use Rattle.std.specs.Prelude.{◌≡◌, ℕ, List, map, Contains, Option, Some, String, string_bytes}
use Rattle.std.specs.declared.alloc.Global.{Global}
use Rattle.serde_json.specs.Data.{Members}
use Rattle.zarrs_chunk_base.specs.Configuration.{IsConfiguration, IsConfigurationFault, Table}
use Rattle.zarrs_chunk_base.specs.declared.plugin_create_error.PluginCreateError.{PluginCreateError}
use Rattle.zarrs_chunk_base.specs.declared.plugin_create_error.PluginCreateError.TheVariants.{NameUnsupported, ConfigurationUnsupported, Other}
use Rattle.zarrs_chunk_base.specs.Metadata.{Extension, configuration_of}

-- A kind of extension, which makes an M of a G that is given beside the metadata, as a grid is made of an array shape.
pub record Kind (G M : Type 0) : Type 1 where
  -- the extension's name
  pub name : List ℕ
  -- what its configurations stand for
  pub Said : Type 0
  -- the members that a configuration has, what they stand for, and how that is written
  pub table : Table
  pub value : Members → Option Said
  pub written : Said → Members
  -- it is said in the form in which the kind writes it
  pub is_written : Said → Type 0
  -- something is made of what is given and said, and this is what
  pub accepts : G → Said → Type 0
  pub makes : M → G → Said → Type 0
  -- the text says that nothing is made
  pub refuses : List ℕ → Type 0

-- ---- of one kind

module _ {G M : Type 0} (kind : Kind G M) where
  -- what is made of what is given and of what the extension's configuration stands for
  abbrev pub IsMadeOf : Extension → G → M → Type 0
  IsMadeOf e given made =
      (x : kind.Said) × IsConfiguration kind.table kind.value (configuration_of e) x × kind.accepts given x × kind.makes made given x

  -- why nothing is made: the configuration isn't of its form, or what it stands for isn't accepted
  abbrev pub IsFaultOf : Extension → G → PluginCreateError → Type 0
  IsFaultOf e given (NameUnsupported name) = ⊥
  IsFaultOf e given (ConfigurationUnsupported fault) = IsConfigurationFault kind.table (configuration_of e) fault
  IsFaultOf e given (Other text) =
      kind.refuses (string_bytes text) × (x : kind.Said) × IsConfiguration kind.table kind.value (configuration_of e) x × ¬ kind.accepts given x

  -- the members say what something was made of, as the kind writes it
  abbrev pub IsConfigurationOf : G → M → Members → Type 0
  IsConfigurationOf given made members =
      (x : kind.Said) × kind.accepts given x × kind.makes made given x × kind.is_written x × (members ≡ kind.written x)
      × IsConfiguration kind.table kind.value members x

  -- the metadata of what was made: the kind's name, and the configuration
  pub record IsMetadata (given : G) (made : M) (e : Extension) : Type 0 where
    pub name : e.name ≡ kind.name
    pub members : Members
    pub configuration : e.configuration ≡ Some members
    pub is_configuration : IsConfigurationOf given made members

  -- the extension has the kind's name, and this is made of it
  abbrev pub IsOf : Extension → G → M → Type 0
  IsOf e given made = (e.name ≡ kind.name) × IsMadeOf e given made

-- ---- of several kinds, by name

module _ {K G M : Type 0} (kind : K → Kind G M) where
  -- what some kind makes of the extension, which has its name
  abbrev pub IsMade : Extension → G → M → Type 0
  IsMade e given made = (k : K) × IsOf (kind k) e given made

  -- the names of kinds
  abbrev pub names : List K → List (List ℕ)
  names = map (λ k. (kind k).name)

  -- Why nothing is made: the name is that of no kind, or the kind of this name makes nothing.
  pub data IsFault (kinds : List K) (e : Extension) (given : G) (fault : PluginCreateError) : Type 0 where
    name_unsupported : (name : String Global) → fault ≡ NameUnsupported name → string_bytes name ≡ e.name → ¬ Contains (names kinds) e.name
        → IsFault kinds e given fault
    fault_of : (k : K) → e.name ≡ (kind k).name → IsFaultOf (kind k) e given fault → IsFault kinds e given fault
