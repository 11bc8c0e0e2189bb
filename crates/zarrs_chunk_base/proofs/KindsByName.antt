-- Kinds of extensions: they are told apart by their whole names, and what was made is made again of its metadata.
use Rattle.std.proofs.Common.{◌≡◌, ℕ, suc, Bool, true, false, cond, List, [], ◌∷◌, Option, Some, Contains, find, bytes_eq, Result, Ok, Err}
use Rattle.std.proofs.Common.{IsErrAnd, MatchResult, sym, ap, ◌∙◌, subst, unwrap_or, true≢false, is_some, arith}
use Rattle.std.specs.List.{AllByRecursion}
use Rattle.serde_json.specs.Data.{Members, no_members}
use Rattle.zarrs_chunk_base.specs.Configuration.{IsConfiguration, IsFitting}
use Rattle.zarrs_chunk_base.specs.Kinds.{IsConfigurationOf, IsFault, IsFaultOf, IsMadeOf, IsMetadata, IsOf, Kind, fault_of, name_unsupported, names}
use Rattle.zarrs_chunk_base.specs.Metadata.{Extension, configuration_of}
use Rattle.zarrs_chunk_base.specs.Refusal.{OrMemory}
use Rattle.zarrs_chunk_base.specs.declared.plugin_create_error.PluginCreateError.{PluginCreateError}
use Rattle.zarrs_chunk_base.specs.declared.plugin_create_error.PluginCreateError.TheVariants.{NameUnsupported, ConfigurationUnsupported, Other}
use Rattle.zarrs_chunk_base.specs.declared.refusal.Refusal.{Refusal}
use Rattle.zarrs_chunk_base.proofs.FirstMembers.{no_fault}
use Rattle.zarrs_chunk_base.proofs.Refusals.{refused_weaker}

-- ---- of one kind

module _ {G M : Type 0} (kind : Kind G M) where
  -- what the members stand for fits the kind's table
  abbrev pub Fits : Type 0
  Fits = (members : Members) (x : kind.Said) → kind.value members ≡ Some x → AllByRecursion (IsFitting members) kind.table.members

  -- members stand for one value at most
  same_said : (said : Members) (x y : kind.Said) → IsConfiguration kind.table kind.value said x → IsConfiguration kind.table kind.value said y → x ≡ y
  same_said said x y is also = let both : Some x ≡ Some y = sym is.1 ∙ also.1 in cc

  -- the configuration in the metadata of what was made is its own
  has_configuration : (given : G) (made : M) (e : Extension) → IsMetadata kind given made e → IsConfigurationOf kind given made (configuration_of e)
  has_configuration given made e is =
      subst (IsConfigurationOf kind given made) (sym (ap (λ c. unwrap_or c no_members) is.configuration)) is.is_configuration

  -- where something was made, it isn't refused
  not_refused : Fits → (given : G) (made : M) (e : Extension) (fault : PluginCreateError) → IsConfigurationOf kind given made (configuration_of e)
      → ¬ IsFaultOf kind e given fault
  not_refused fits given made e (NameUnsupported name) (x, accepted, makes, form, written, is) refused = refused
  not_refused fits given made e (ConfigurationUnsupported fault) (x, accepted, makes, form, written, is) refused =
      no_fault kind.table (configuration_of e) fault is.0 (fits (configuration_of e) x is.1) refused
  not_refused fits given made e (Other text) (x, accepted, makes, form, written, is) (_, y, also, not_accepted) =
      not_accepted (subst (kind.accepts given) (same_said (configuration_of e) x y is also) accepted)

  -- what is made of the metadata is made of what was said the first time
  said_again : (given : G) (made again : M) (e : Extension) → IsConfigurationOf kind given made (configuration_of e) → IsMadeOf kind e given again
      → (x : kind.Said) × kind.makes made given x × kind.makes again given x
  said_again given made again e (x, accepted, makes, form, written, is) (y, also, accepted_again, makes_again) =
      (x, makes, subst (kind.makes again given) (same_said (configuration_of e) y x also is) makes_again)

-- ---- of several kinds, by name

module _ {K G M : Type 0} (kind : K → Kind G M) where
  -- the first kind of this name
  abbrev pub named : List K → List ℕ → Option K
  named kinds name = find (λ k. bytes_eq (kind k).name name) kinds

  -- each kind is found by its name
  abbrev pub AreFound : List K → Type 0
  AreFound kinds = (k : K) → named kinds (kind k).name ≡ Some k

  -- kinds of one name are one
  pub same_kind : (kinds : List K) → AreFound kinds → (k l : K) → (kind k).name ≡ (kind l).name → k ≡ l
  same_kind kinds are_found k l same =
      let both : Some k ≡ Some l = sym (are_found k) ∙ ap (named kinds) same ∙ are_found l in cc

  -- what is found stands in the list
  found_within : (kinds : List K) (name : List ℕ) (k : K) → named kinds name ≡ Some k → Contains (names kind kinds) (kind k).name
  found_within [] name k found = absurd (true≢false (sym (ap is_some found)))
  found_within (l ∷ kinds) name k found = by_test (found_within kinds name k) (bytes_eq (kind l).name name) found where
    by_test : (named kinds name ≡ Some k → Contains (names kind kinds) (kind k).name) → (b : Bool) → cond b (Some l) (named kinds name) ≡ Some k
        → Contains (names kind (l ∷ kinds)) (kind k).name
    by_test rest true first = let same : l ≡ k = cc in (0, omega arith, ap (λ j. (kind j).name) same)
    by_test rest false later = let (i, within, at) = rest later in (suc i, omega arith, at)

  -- the name of a kind is one of the names
  pub is_named : (kinds : List K) → AreFound kinds → (k : K) → Contains (names kind kinds) (kind k).name
  is_named kinds are_found k = found_within kinds (kind k).name k (are_found k)

  -- a kind's refusal that is handed on is that of the extension's name
  pub handed_on : (kinds : List K) {A : Type 0} (P : A → Type 0) (k : K) (given : G) (e : Extension) (refusal : Refusal PluginCreateError)
      (answer : Result A (Refusal PluginCreateError)) → e.name ≡ (kind k).name → OrMemory (IsFaultOf (kind k) e given) refusal
      → IsErrAnd answer (λ other. other ≡ refusal) → MatchResult answer P (OrMemory (IsFault kind kinds e given))
  handed_on kinds P k given e refusal (Ok x) name refused is = absurd is
  handed_on kinds P k given e refusal (Err other) name refused is =
      subst (OrMemory (IsFault kind kinds e given)) (sym is)
      (refused_weaker refusal (IsFaultOf (kind k) e given) (IsFault kind kinds e given) refused (λ fault. fault_of k name))

  -- the metadata of what was made is never refused for what it was made of
  pub never_refused : (kinds : List K) → AreFound kinds → ((k : K) → Fits (kind k))
      → (k : K) (given : G) (made : M) (e : Extension) (fault : PluginCreateError)
      → IsMetadata (kind k) given made e → ¬ IsFault kind kinds e given fault
  never_refused kinds are_found fits k given made e fault is (name_unsupported _ _ _ none) =
      none (subst (Contains (names kind kinds)) (sym is.name) (is_named kinds are_found k))
  never_refused kinds are_found fits k given made e fault is (fault_of l name refused) =
      let same = same_kind kinds are_found k l (sym is.name ∙ name) in
      not_refused (kind k) (fits k) given made e fault (has_configuration (kind k) given made e is)
      (subst (λ j. IsFaultOf (kind j) e given fault) (sym same) refused)

  -- what is made of the metadata is of the same kind, and is made of what was said the first time
  pub made_again : (kinds : List K) → AreFound kinds → (k l : K) (given : G) (made again : M) (e : Extension) → IsMetadata (kind k) given made e
      → IsOf (kind l) e given again → (k ≡ l) × ((x : (kind k).Said) × (kind k).makes made given x × (kind k).makes again given x)
  made_again kinds are_found k l given made again e is (name, of_kind) =
      let same = same_kind kinds are_found k l (sym is.name ∙ name) in
      let of_same = subst (λ j. IsMadeOf (kind j) e given again) (sym same) of_kind in
      (same, said_again (kind k) given made again e (has_configuration (kind k) given made e is) of_same)
