-- What is known of the members of a configuration on the way to its first fault.
use Rattle.std.specs.Prelude.{◌≡◌, ℕ, List, Option, Some, None}
use Rattle.serde_json.specs.Data.{Data, Members}
use Rattle.serde_json.specs.Find.{get_member}
use Rattle.zarrs_chunk_base.specs.declared.configuration_fault.ConfigurationFault.{ConfigurationFault}
use Rattle.zarrs_chunk_base.specs.declared.configuration_fault.ConfigurationFault.TheVariants.{MissingField, WrongValue}
use Rattle.zarrs_chunk_base.specs.First.{IsFirst}

-- the fault names the first of the names that no member has
abbrev pub IsFirstMissing : List (List ℕ) → Members → ConfigurationFault → Type 0
IsFirstMissing names members (MissingField field) = IsFirst (λ name. get_member name members ≡ None) names field.now
IsFirstMissing _ _ _ = ⊥

-- the fault names a member whose value isn't of the form
abbrev pub IsValueFault : {X : Type 0} → List ℕ → (Data → Option X) → Members → ConfigurationFault → Type 0
IsValueFault name form members (WrongValue field) =
    (field.now ≡ name) × (d : Data) × (get_member name members ≡ Some d) × (form d ≡ None)
IsValueFault _ _ _ _ = ⊥
