-- The first of a list in the order of names has the least name.
use Rattle.std.proofs.Common.{◌≡◌, ◌≢◌, ℕ, zero, suc, Bool, true, false, if◌then◌else◌, List, [], ◌∷◌, Option, None, Some, option_and_then}
use Rattle.std.proofs.Common.{MatchOption, IsSome, is_some, Ordering, Less, Equal, Greater, nat_cmp, Contains, refl, sym, ap, ◌∙◌, subst, inl, inr}
use Rattle.std.proofs.Common.{◌⊎◌, ⊎_elim, true≢false, arith}
use Rattle.std.proofs.lemmas.Cmp.{nat_list_cmp_total, tied_itself}
use Rattle.std.specs.Cmp.Lexicographic.{slice_cmp}
use Rattle.std.specs.List.{AllByRecursion}
use Rattle.std.specs.Option.{option_map_or}
use Rattle.serde_json.specs.Data.{Data, Members}
use Rattle.serde_json.specs.Find.{get_member}
use Rattle.zarrs_chunk_base.specs.Configuration.{AreInOrder, HasNoUnknown, HasRequired, IsFirstWrong, IsConfigurationFault, IsFitting, IsLeastName}
use Rattle.zarrs_chunk_base.specs.Configuration.{HasWrongValue, IsMissing, IsWrong, Member, Table, names_of, required_names_of, value_of, value_or}
use Rattle.zarrs_chunk_base.specs.First.{IsFirst}
use Rattle.zarrs_chunk_base.specs.declared.configuration_fault.ConfigurationFault.{ConfigurationFault}
use Rattle.zarrs_chunk_base.specs.declared.configuration_fault.ConfigurationFault.TheVariants.{UnknownField, MissingField, WrongValue}
use Rattle.zarrs_chunk_base.specs.lemmas.Members.{IsFirstMissing, IsValueFault}

pub Less≢Greater : (o : Ordering) → o ≡ Less → o ≢ Greater
Less≢Greater o e h = cc

pub Equal≢Greater : (o : Ordering) → o ≡ Equal → o ≢ Greater
Equal≢Greater o e h = cc

-- what a list contains is its first, or the rest contains it
pub contained : {X : Type 0} (x : X) (xs : List X) (y : X) → Contains (x ∷ xs) y → (x ≡ y) ⊎ Contains xs y
contained x xs y (zero, within, at) = inl at
contained x xs y (suc k, within, at) = inr (k, omega arith, at)

-- what is said of each is said of what the list contains
all_contained : {X : Type 0} (P : X → Type 0) (xs : List X) → AllByRecursion P xs → (y : X) → Contains xs y → P y
all_contained P [] h y (k, within, at) = absurd (omega arith)
all_contained P (x ∷ xs) h y c = ⊎_elim (λ same. subst P same h.0) (all_contained P xs h.1 y) (contained x xs y c)

module _ {X : Type 0} (name_of : X → List ℕ) where
  -- each name comes before those after it
  abbrev pub InOrder : List X → Type 0
  InOrder [] = Unit {0}
  InOrder (x ∷ xs) = AllByRecursion (λ y. slice_cmp nat_cmp (name_of x) (name_of y) ≡ Less) xs × InOrder xs

  -- x is in the list, and no other with P has a name before its own
  pub record IsLeastOf (P : X → Type 0) (xs : List X) (x : X) : Type 0 where
    pub in_list : Contains xs x
    pub holds : P x
    pub least : (y : X) → Contains xs y → P y → slice_cmp nat_cmp (name_of x) (name_of y) ≢ Greater

  pub first_is_least : (P : X → Type 0) (xs : List X) (x : X) → InOrder xs → IsFirst P xs x → IsLeastOf P xs x
  first_is_least P [] x order first = absurd first
  first_is_least P (y ∷ ys) x order first =
      ⊎_elim
      (λ (holds, same). record {
        in_list = (0, omega arith, sym same);
        holds = subst P (sym same) holds;
        least = λ z c _. rw same
            (⊎_elim (λ it. subst (λ w. slice_cmp nat_cmp (name_of y) (name_of w) ≢ Greater) it
            (Equal≢Greater _ (tied_itself nat_list_cmp_total (name_of y))))
            (λ later. Less≢Greater _ (all_contained (λ w. slice_cmp nat_cmp (name_of y) (name_of w) ≡ Less) ys order.0 z later))
            (contained y ys z c));
      })
      (λ (not_here, later).
      let rest = first_is_least P ys x order.1 later in
      let (k, within, at) = rest.in_list in
      record {
        in_list = (suc k, omega arith, at);
        holds = rest.holds;
        least = λ z c holds. ⊎_elim (λ it. absurd (not_here (subst P (sym it) holds))) (λ later. rest.least z later holds) (contained y ys z c);
      })
      first

-- ---- names that have to be there

all_if : (P : List ℕ → Type 0) (b : Bool) (name : List ℕ) (names : List (List ℕ)) → P name → AllByRecursion P names
    → AllByRecursion P (if b then name ∷ names else names)
all_if P true name names here rest = (here, rest)
all_if P false name names here rest = rest

required_after : (name : List ℕ) (table : List Member) → AllByRecursion (λ m. slice_cmp nat_cmp name m.name ≡ Less) table
    → AllByRecursion (λ n. slice_cmp nat_cmp name n ≡ Less) (required_names_of table)
required_after name [] h = tt
required_after name (m ∷ table) h =
    all_if (λ n. slice_cmp nat_cmp name n ≡ Less) m.required m.name (required_names_of table) h.0 (required_after name table h.1)

in_order_if : (b : Bool) (name : List ℕ) (names : List (List ℕ)) → AllByRecursion (λ n. slice_cmp nat_cmp name n ≡ Less) names
    → InOrder (λ n. n) names → InOrder (λ n. n) (if b then name ∷ names else names)
in_order_if true name names after rest = (after, rest)
in_order_if false name names after rest = rest

required_in_order : (table : List Member) → AreInOrder table → InOrder (λ n. n) (required_names_of table)
required_in_order [] order = tt
required_in_order (m ∷ table) order =
    in_order_if m.required m.name (required_names_of table) (required_after m.name table order.0) (required_in_order table order.1)

-- the first that is missing has the least name
pub least_missing : (table : List Member) (members : Members) (name : List ℕ) → AreInOrder table
    → IsFirst (λ n. get_member n members ≡ None) (required_names_of table) name → IsLeastName (IsMissing (required_names_of table) members) name
least_missing table members name order first =
    let least = first_is_least (λ n. n) (λ n. get_member n members ≡ None) (required_names_of table) name (required_in_order table order) first in
    record { holds = (least.in_list, least.holds); least = λ other missing. least.least other missing.0 missing.1 }

-- where each is there, none is missing
pub none_missing : (table : List Member) (members : Members) → HasRequired table members → (name : List ℕ)
    → ¬ IsMissing (required_names_of table) members name
none_missing table members there name missing =
    true≢false (sym (all_contained (λ n. IsSome (get_member n members)) (required_names_of table) there name missing.0) ∙ ap is_some missing.1)

-- ---- values that aren't of their forms

table_in_order : (table : List Member) → AreInOrder table → InOrder (λ m. m.name) table
table_in_order [] order = tt
table_in_order (m ∷ table) order = (order.0, table_in_order table order.1)

-- the first that isn't of its form has the least name
pub least_wrong : (table : List Member) (members : Members) (m : Member) → AreInOrder table → IsFirst (HasWrongValue members) table m
    → IsLeastName (IsWrong table members) m.name
least_wrong table members m order first =
    let least = first_is_least (λ (x : Member). x.name) (HasWrongValue members) table m (table_in_order table order) first in
    record {
      holds = (m, least.in_list, refl, least.holds);
      least = λ other (x, within, named, wrong). subst (λ n. slice_cmp nat_cmp m.name n ≢ Greater) named (least.least x within wrong);
    }

-- ---- faults

-- the first name that is missing is a configuration's first fault, where each name is known
pub missing_is_first : (table : Table) (members : Members) (fault : ConfigurationFault) → AreInOrder table.members
    → HasNoUnknown (names_of table.members) members
    → IsFirstMissing (required_names_of table.members) members fault → IsConfigurationFault table members fault
missing_is_first table members (MissingField field) order known first = (known, least_missing table.members members field.now order first)
missing_is_first table _ _ order known first = absurd first

-- the first value that isn't of its form is, where besides no name is missing
pub wrong_is_first : (table : Table) (members : Members) (fault : ConfigurationFault) → AreInOrder table.members
    → HasNoUnknown (names_of table.members) members
    → HasRequired table.members members → IsFirstWrong table.members members fault → IsConfigurationFault table members fault
wrong_is_first table members (WrongValue field) order known there (m, named, first) = (
  known,
  none_missing table.members members there,
  subst (IsLeastName (IsWrong table.members members)) (sym named) (least_wrong table.members members m order first),
)
wrong_is_first table _ _ order known there first = absurd first

-- ---- tables, member by member

module _ {X : Type 0} (form : Data → Option X) (m : Member) (rest : List Member) (members : Members)
    (of_form : (d : Data) → m.of_form d ≡ is_some (form d)) where
  misformed : (d : Data) → form d ≡ None → m.of_form d ≡ false
  misformed d none = of_form d ∙ ap is_some none

  -- a value that isn't of the form of the table's first member is the first that isn't
  pub first_wrong : (fault : ConfigurationFault) → IsValueFault m.name form members fault → IsFirstWrong (m ∷ rest) members fault
  first_wrong (WrongValue field) (named, d, there, none) = (m, named, inl ((d, there, misformed d none), refl))
  first_wrong _ wrong = absurd wrong

  -- where that member's value is of its form, the first is one of the rest
  later : ((d : Data) → get_member m.name members ≡ Some d → is_some (form d) ≡ true) → (fault : ConfigurationFault) → IsFirstWrong rest members fault
      → IsFirstWrong (m ∷ rest) members fault
  later formed (WrongValue field) (other, named, first) = (other, named, inr (not_here, first)) where
    not_here : ¬ HasWrongValue members m
    not_here (d, there, wrong) = true≢false (sym (of_form d ∙ formed d there) ∙ wrong)
  later formed _ wrong = absurd wrong

  pub later_wrong : (x : X) → value_of m.name form members ≡ Some x → (fault : ConfigurationFault) → IsFirstWrong rest members fault
      → IsFirstWrong (m ∷ rest) members fault
  later_wrong x is = later (λ d there. ap is_some (ap (option_and_then form) (sym there) ∙ is))

  -- also where it may be absent
  pub later_wrong_or : (usual x : X) → value_or usual m.name form members ≡ Some x → (fault : ConfigurationFault) → IsFirstWrong rest members fault
      → IsFirstWrong (m ∷ rest) members fault
  later_wrong_or usual x is = later (λ d there. ap is_some (ap (λ found. option_map_or form found (Some usual)) (sym there) ∙ is))

-- ---- no fault

required_if : (P : List ℕ → Type 0) (b : Bool) (name : List ℕ) (names : List (List ℕ)) → (b ≡ true → P name) → AllByRecursion P names
    → AllByRecursion P (if b then name ∷ names else names)
required_if P true name names here rest = (here refl, rest)
required_if P false name names here rest = rest

there_if : (found : Option Data) (b : Bool) (form : Data → Bool) → MatchOption found (b ≡ false) (λ d. form d ≡ true) → b ≡ true → IsSome found
there_if None b form fits is = absurd (true≢false (sym is ∙ fits))
there_if (Some d) b form fits is = refl

fitting_has_required : (given : Members) (table : List Member) → AllByRecursion (IsFitting given) table → HasRequired table given
fitting_has_required given [] fits = tt
fitting_has_required given (m ∷ table) fits =
    required_if (λ n. IsSome (get_member n given)) m.required m.name (required_names_of table)
    (there_if (get_member m.name given) m.required m.of_form fits.0) (fitting_has_required given table fits.1)

fitting_is_formed : (given : Members) (m : Member) → IsFitting given m → ¬ HasWrongValue given m
fitting_is_formed given m fits (d, at, wrong) =
    true≢false (sym (subst (λ found. MatchOption found (m.required ≡ false) (λ e. m.of_form e ≡ true)) at fits) ∙ wrong)

-- members that are known and fit the table have no fault
pub no_fault : (table : Table) (given : Members) (fault : ConfigurationFault) → HasNoUnknown (names_of table.members) given
    → AllByRecursion (IsFitting given) table.members → ¬ IsConfigurationFault table given fault
no_fault table given (UnknownField field listed) known fits is = known _ is.0.holds
no_fault table given (MissingField field) known fits is =
    none_missing table.members given (fitting_has_required given table.members fits) field.now is.1.holds
no_fault table given (WrongValue field) known fits is =
    let (m, within, named, wrong) = is.2.holds in
    fitting_is_formed given m (all_contained (IsFitting given) table.members fits m within) wrong
