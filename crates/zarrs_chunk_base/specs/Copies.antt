-- What a copy of an error has in common with it.
use Rattle.std.specs.Prelude.{◌≡◌, string_bytes}
use Rattle.zarrs_chunk_base.specs.declared.configuration_fault.ConfigurationFault.{ConfigurationFault}
use Rattle.zarrs_chunk_base.specs.declared.configuration_fault.ConfigurationFault.TheVariants.{UnknownField, MissingField, WrongValue}
use Rattle.zarrs_chunk_base.specs.declared.plugin_create_error.PluginCreateError.{PluginCreateError}
use Rattle.zarrs_chunk_base.specs.declared.plugin_create_error.PluginCreateError.TheVariants.{NameUnsupported, ConfigurationUnsupported, Other}

-- the same fault, of equal texts
abbrev pub IsSameConfigurationFault : ConfigurationFault → ConfigurationFault → Type 0
IsSameConfigurationFault (UnknownField f e) (UnknownField g d) = (string_bytes f ≡ string_bytes g) × (e.now ≡ d.now)
IsSameConfigurationFault (MissingField f) (MissingField g) = f.now ≡ g.now
IsSameConfigurationFault (WrongValue f) (WrongValue g) = f.now ≡ g.now
IsSameConfigurationFault _ _ = ⊥

-- the same refusal, of equal texts
abbrev pub IsSamePluginCreateError : PluginCreateError → PluginCreateError → Type 0
IsSamePluginCreateError (NameUnsupported s) (NameUnsupported t) = string_bytes s ≡ string_bytes t
IsSamePluginCreateError (ConfigurationUnsupported f) (ConfigurationUnsupported g) = IsSameConfigurationFault f g
IsSamePluginCreateError (Other s) (Other t) = string_bytes s ≡ string_bytes t
IsSamePluginCreateError _ _ = ⊥
