-- The configuration of an extension: an object with the members that its kind has, and no others. A kind has a table of its members,
-- from which the faults and their order follow.
use Rattle.std.specs.Prelude.{◌≡◌, ◌≢◌, ℕ, Bool, true, false, if◌then◌else◌, List, [], ◌∷◌, map, Contains, IsSome, is_some, Option, Some, None}
use Rattle.std.specs.Prelude.{option_and_then, MatchOption, string_bytes}
use Rattle.std.specs.Option.{option_map_or}
use Rattle.std.specs.List.{AllByRecursion}
use Rattle.std.specs.Ordering.{nat_cmp}
use Rattle.std.specs.Cmp.Lexicographic.{slice_cmp}
use Rattle.std.specs.declared.cmp.Ordering.TheVariants.{Less, Greater}
use Rattle.serde_json.specs.Data.{Data, Members}
use Rattle.serde_json.specs.Find.{get_member}
use Rattle.zarrs_chunk_base.specs.First.{IsFirst}
use Rattle.zarrs_chunk_base.specs.declared.configuration_fault.ConfigurationFault.{ConfigurationFault}
use Rattle.zarrs_chunk_base.specs.declared.configuration_fault.ConfigurationFault.TheVariants.{UnknownField, MissingField, WrongValue}
use Rattle.zarrs_chunk_base.specs.declared.plugin_create_error.PluginCreateError.{PluginCreateError}
use Rattle.zarrs_chunk_base.specs.declared.plugin_create_error.PluginCreateError.TheVariants.{ConfigurationUnsupported}

-- a member of a configuration: its name, whether it has to be there, and which trees are of its form
pub record Member : Type 0 where
  pub name : List ℕ
  pub required : Bool
  pub of_form : Data → Bool

-- a member that has to be there
abbrev pub required : {X : Type 0} → List ℕ → (Data → Option X) → Member
required name form = record { name = name; required = true; of_form = λ d. is_some (form d) }

-- a member that may be absent
abbrev pub optional : {X : Type 0} → List ℕ → (Data → Option X) → Member
optional name form = record { name = name; required = false; of_form = λ d. is_some (form d) }

-- the members that a kind of configuration has, and how a fault lists their names
pub record Table : Type 0 where
  pub members : List Member
  pub expected : List ℕ

-- the members stand in the order of their names
abbrev pub AreInOrder : List Member → Type 0
AreInOrder [] = Unit {0}
AreInOrder (m ∷ ms) = AllByRecursion (λ other. slice_cmp nat_cmp m.name other.name ≡ Less) ms × AreInOrder ms

-- the names of the members
abbrev pub names_of : List Member → List (List ℕ)
names_of = map (λ m. m.name)

-- the names of the members that have to be there
abbrev pub required_names_of : List Member → List (List ℕ)
required_names_of [] = []
required_names_of (m ∷ ms) = if m.required then m.name ∷ required_names_of ms else required_names_of ms

-- of the names with P, the first in the order of their bytes
pub record IsLeastName (P : List ℕ → Type 0) (name : List ℕ) : Type 0 where
  pub holds : P name
  pub least : (other : List ℕ) → P other → slice_cmp nat_cmp name other ≢ Greater

-- the members have a name that isn't known
abbrev pub IsUnknown : List (List ℕ) → Members → List ℕ → Type 0
IsUnknown known members name = IsSome (get_member name members) × ¬ Contains known name

-- each name is known
abbrev pub HasNoUnknown : List (List ℕ) → Members → Type 0
HasNoUnknown known members = (name : List ℕ) → ¬ IsUnknown known members name

-- what the members stand for: each of them is known, and their values are of their forms
abbrev pub IsConfiguration : {X : Type 0} → Table → (Members → Option X) → Members → X → Type 0
IsConfiguration table value members x = HasNoUnknown (names_of table.members) members × (value members ≡ Some x)

-- a name that has to be there isn't
abbrev pub IsMissing : List (List ℕ) → Members → List ℕ → Type 0
IsMissing required members name = Contains required name × (get_member name members ≡ None)

-- each member that has to be there is
abbrev pub HasRequired : List Member → Members → Type 0
HasRequired table members = AllByRecursion (λ name. IsSome (get_member name members)) (required_names_of table)

-- the member is there, and its value isn't of its form
abbrev pub HasWrongValue : Members → Member → Type 0
HasWrongValue members m = (d : Data) × (get_member m.name members ≡ Some d) × (m.of_form d ≡ false)

-- the member is there if it has to be, and is of its form where it is there
abbrev pub IsFitting : Members → Member → Type 0
IsFitting members m = MatchOption (get_member m.name members) (m.required ≡ false) (λ d. m.of_form d ≡ true)

-- the value of the member of this name isn't of its form
abbrev pub IsWrong : List Member → Members → List ℕ → Type 0
IsWrong table members name = (m : Member) × Contains table m × (m.name ≡ name) × HasWrongValue members m

-- the fault names the first member of the table whose value isn't of its form
abbrev pub IsFirstWrong : List Member → Members → ConfigurationFault → Type 0
IsFirstWrong table members (WrongValue field) = (m : Member) × (field.now ≡ m.name) × IsFirst (HasWrongValue members) table m
IsFirstWrong _ _ _ = ⊥

-- the fault names the first unknown member, and lists what was expected
abbrev pub IsUnknownFault : List (List ℕ) → List ℕ → Members → ConfigurationFault → Type 0
IsUnknownFault known expected members (UnknownField field listed) =
    IsLeastName (IsUnknown known members) (string_bytes field) × (listed.now ≡ expected)
IsUnknownFault _ _ _ _ = ⊥

-- The first fault of a configuration: an unknown member, a missing one, or a value that isn't of its form; of
-- several of one kind the first by name.
abbrev pub IsConfigurationFault : Table → Members → ConfigurationFault → Type 0
IsConfigurationFault table members (UnknownField field listed) =
    IsUnknownFault (names_of table.members) table.expected members (UnknownField field listed)
IsConfigurationFault table members (MissingField field) =
    HasNoUnknown (names_of table.members) members × IsLeastName (IsMissing (required_names_of table.members) members) field.now
IsConfigurationFault table members (WrongValue field) =
    HasNoUnknown (names_of table.members) members × ((name : List ℕ) → ¬ IsMissing (required_names_of table.members) members name)
    × IsLeastName (IsWrong table.members members) field.now

-- the refusal says that the configuration isn't of its form, and why
abbrev pub IsUnsupported : Table → Members → PluginCreateError → Type 0
IsUnsupported table members (ConfigurationUnsupported fault) = IsConfigurationFault table members fault
IsUnsupported _ _ _ = ⊥

-- what a member that has to be there stands for
abbrev pub value_of : {X : Type 0} → List ℕ → (Data → Option X) → Members → Option X
value_of name form members = option_and_then form (get_member name members)

-- what a member that may be absent stands for; the usual value where it is absent
abbrev pub value_or : {X : Type 0} → X → List ℕ → (Data → Option X) → Members → Option X
value_or usual name form members = option_map_or form (get_member name members) (Some usual)
