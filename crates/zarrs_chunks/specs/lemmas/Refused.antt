-- What is known of a refusal on the way to the first fault of metadata.
use Rattle.std.specs.Prelude.{ℕ, List, string_bytes}
use Rattle.zarrs_chunk_base.specs.declared.plugin_create_error.PluginCreateError.{PluginCreateError}
use Rattle.zarrs_chunk_base.specs.declared.plugin_create_error.PluginCreateError.TheVariants.{Other}

-- the refusal is a text of which P holds, and Q holds
abbrev pub IsRefusedBy : (List ℕ → Type 0) → Type 0 → PluginCreateError → Type 0
IsRefusedBy P Q (Other text) = P (string_bytes text) × Q
IsRefusedBy _ _ _ = ⊥
