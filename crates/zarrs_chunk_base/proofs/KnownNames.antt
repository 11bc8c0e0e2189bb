-- The first member that isn't known has the least name, since members are kept in the order of their names.
use Rattle.std.proofs.Common.{◌≡◌, ◌≢◌, ℕ, suc, Bool, true, false, cond, not, List, [], ◌∷◌, map, Option, None, Some, String, Global, Ordering, Less}
use Rattle.std.proofs.Common.{Equal, Greater, string_bytes, string_cmp, nat_cmp, Contains, IsSome, find, bytes_eq, Bor, Result, Ok, Err, IfOk, refl}
use Rattle.std.proofs.Common.{sym, ap, ◌∙◌, subst, inl, inr, ◌⊎◌, ⊎_elim, true≢false, arith}
use Rattle.std.proofs.lemmas.Bool.{not-true, not-false, both_ways}
use Rattle.std.proofs.lemmas.Cmp.{nat_list_cmp_total, tied_itself}
use Rattle.std.proofs.lemmas.List.Folds.{list_any_at}
use Rattle.std.proofs.lemmas.Map.Lookups.{exact_bytes}
use Rattle.std.proofs.lemmas.Map.Views.{Contains-from_any}
use Rattle.std.proofs.lemmas.Slice.Eq.{bytes_eq-Decides}
use Rattle.std.specs.Cmp.Lexicographic.{slice_cmp}
use Rattle.std.specs.List.{AllByRecursion, list_any}
use Rattle.std.specs.List.Sorted.{IsStrictlySortedBy}
use Rattle.std.specs.Map.{keys_of}
use Rattle.std.specs.Ordering.{match_ordering}
use Rattle.serde_json.specs.Data.{Data, Members, no_members, member}
use Rattle.serde_json.specs.Find.{get_member}
use Rattle.serde_json.specs.View.{view, members_view}
use Rattle.serde_json.specs.declared.value.Value.{Value}
use Rattle.zarrs_chunk_base.specs.Configuration.{HasNoUnknown, IsConfiguration, IsLeastName, IsUnknown, Table, names_of}
use Rattle.zarrs_chunk_base.proofs.FirstMembers.{Equal≢Greater, Less≢Greater}

abbrev pub Entry : Type 0
Entry = String Global × Value

-- the texts that references point to
abbrev pub texts : List (Bor (List ℕ)) → List (List ℕ)
texts known = map (λ name. name.now) known

-- a test of one name against each
abbrev pub is_known : List (Bor (List ℕ)) → List ℕ → Bool
is_known known name = list_any (λ other. bytes_eq other.now name) known

abbrev is_unknown_key : List (Bor (List ℕ)) → String Global → Bool
is_unknown_key known k = not (is_known known (string_bytes k))

is_known-texts : (known : List (Bor (List ℕ))) (name : List ℕ) → is_known known name ≡ list_any (λ other. bytes_eq other name) (texts known)
is_known-texts [] name = refl
is_known-texts (k ∷ known) name = rw (is_known-texts known name)

Contains-from_known : (known : List (Bor (List ℕ))) (name : List ℕ) → is_known known name ≡ true → Contains (texts known) name
Contains-from_known known name h =
    Contains-from_any {eq = λ q k. bytes_eq k q} (λ q k e. sym ((bytes_eq-Decides k q).0 e)) name (texts known) (sym (is_known-texts known name) ∙ h)

known_from_Contains : (known : List (Bor (List ℕ))) (name : List ℕ) → Contains (texts known) name → is_known known name ≡ true
known_from_Contains known name (k, within, at) =
    is_known-texts known name ∙ list_any_at (λ other. bytes_eq other name) (texts known) k name within ((bytes_eq-Decides _ name).1 at)

-- ---- a member among others

member_cases : (o : Ordering) (d : Data) (rest : Option Data) → IsSome (match_ordering o rest (Some d) rest) → (o ≡ Equal) ⊎ IsSome rest
member_cases Less d rest h = inr h
member_cases Equal d rest h = inl refl
member_cases Greater d rest h = inr h

member_first : (o : Ordering) (d : Data) (rest : Option Data) → o ≡ Equal → IsSome (match_ordering o rest (Some d) rest)
member_first Less d rest e = cc
member_first Equal d rest e = refl
member_first Greater d rest e = cc

member_later : (o : Ordering) (d : Data) (rest : Option Data) → IsSome rest → IsSome (match_ordering o rest (Some d) rest)
member_later Less d rest h = h
member_later Equal d rest h = refl
member_later Greater d rest h = h

-- a member of the rest comes after the first key
after_first : (k : String Global) (es : List Entry) (name : List ℕ) → AllByRecursion (λ y. string_cmp k y ≡ Less) (keys_of es)
    → IsSome (get_member name (members_view es)) → slice_cmp nat_cmp (string_bytes k) name ≡ Less
after_first k [] name above h = absurd (true≢false (sym h))
after_first k (e ∷ es) name above h =
    ⊎_elim
    (λ same. subst (λ n. slice_cmp nat_cmp (string_bytes k) n ≡ Less) (sym (exact_bytes name (string_bytes e.0) same)) above.0)
    (λ later. after_first k es name above.1 later)
    (member_cases (slice_cmp nat_cmp name (string_bytes e.0)) (view e.1) _ h)

-- ---- none is unknown

find_none : (test : String Global → Bool) (k : String Global) (rest : Option (String Global)) → cond (test k) (Some k) rest ≡ None
    → (test k ≡ false) × (rest ≡ None)
find_none test k rest h = by_test (test k) refl h where
  by_test : (b : Bool) → test k ≡ b → cond b (Some k) rest ≡ None → (test k ≡ false) × (rest ≡ None)
  by_test true e h = cc
  by_test false e h = (e, h)

find_some : (test : String Global → Bool) (k : String Global) (rest : Option (String Global)) (found : String Global)
    → cond (test k) (Some k) rest ≡ Some found → ((test k ≡ true) × (k ≡ found)) ⊎ ((test k ≡ false) × (rest ≡ Some found))
find_some test k rest found h = by_test (test k) refl h where
  by_test : (b : Bool) → test k ≡ b → cond b (Some k) rest ≡ Some found → ((test k ≡ true) × (k ≡ found)) ⊎ ((test k ≡ false) × (rest ≡ Some found))
  by_test true e h = inl (e, cc)
  by_test false e h = inr (e, h)

pub none_unknown : (known : List (Bor (List ℕ))) (es : List Entry) → find (is_unknown_key known) (keys_of es) ≡ None
    → HasNoUnknown (texts known) (members_view es)
none_unknown known [] none name unknown = true≢false (sym unknown.0)
none_unknown known (e ∷ es) none name unknown =
    let parts = find_none (is_unknown_key known) e.0 (find (is_unknown_key known) (keys_of es)) none in
    ⊎_elim
    (λ same. unknown.1 (subst (Contains (texts known)) (sym (exact_bytes name (string_bytes e.0) same))
    (Contains-from_known known (string_bytes e.0) (not-false _ parts.0))))
    (λ later. none_unknown known es parts.1 name (later, unknown.1))
    (member_cases (slice_cmp nat_cmp name (string_bytes e.0)) (view e.1) _ unknown.0)

-- ---- the first unknown

pub first_unknown : (known : List (Bor (List ℕ))) (es : List Entry) (k : String Global) → IsStrictlySortedBy string_cmp (keys_of es)
    → find (is_unknown_key known) (keys_of es) ≡ Some k → IsLeastName (IsUnknown (texts known) (members_view es)) (string_bytes k)
unfolding IsStrictlySortedBy
first_unknown known [] k sorted found = cc
first_unknown known (e ∷ es) k sorted found =
    ⊎_elim
    (λ (unknown, is_first).
    let same : string_bytes e.0 ≡ string_bytes k = ap string_bytes is_first in
    record {
      holds = subst (IsUnknown (texts known) (members_view (e ∷ es))) same (
        member_first (slice_cmp nat_cmp (string_bytes e.0) (string_bytes e.0)) (view e.1) _ (tied_itself nat_list_cmp_total (string_bytes e.0)),
        λ has. both_ways _ (not-true _ unknown) (known_from_Contains known (string_bytes e.0) has),
      );
      least = λ other h. subst (λ n. slice_cmp nat_cmp n other ≢ Greater) same
          (⊎_elim
          (λ tie. subst (λ n. slice_cmp nat_cmp (string_bytes e.0) n ≢ Greater) (sym (exact_bytes other (string_bytes e.0) tie))
          (Equal≢Greater _ (tied_itself nat_list_cmp_total (string_bytes e.0))))
          (λ later. Less≢Greater _ (after_first e.0 es other sorted.0 later))
          (member_cases (slice_cmp nat_cmp other (string_bytes e.0)) (view e.1) _ h.0));
    })
    (λ (is_known_first, later).
    let rest = first_unknown known es k sorted.1 later in
    record {
      holds = (member_later (slice_cmp nat_cmp (string_bytes k) (string_bytes e.0)) (view e.1) _ rest.holds.0, rest.holds.1);
      least = λ other h.
          ⊎_elim
          (λ tie. absurd (h.1 (subst (Contains (texts known)) (sym (exact_bytes other (string_bytes e.0) tie))
          (Contains-from_known known (string_bytes e.0) (not-false _ is_known_first)))))
          (λ among. rest.least other (among, h.1))
          (member_cases (slice_cmp nat_cmp other (string_bytes e.0)) (view e.1) _ h.0);
    })
    (find_some (is_unknown_key known) e.0 (find (is_unknown_key known) (keys_of es)) k found)

-- ---- members that are written

-- the names of members
abbrev pub keys_of_members : Members → List (List ℕ)
keys_of_members no_members = []
keys_of_members (member k d ms) = k ∷ keys_of_members ms

named : (name : List ℕ) (ms : Members) → IsSome (get_member name ms) → Contains (keys_of_members ms) name
named name no_members h = absurd (true≢false (sym h))
named name (member k d ms) h =
    ⊎_elim (λ same. (0, omega arith, sym (exact_bytes name k same)))
    (λ later. let (i, within, at) = named name ms later in (suc i, omega arith, at))
    (member_cases (slice_cmp nat_cmp name k) d _ h)

-- each name is among them
pub all_named : (ms : Members) → HasNoUnknown (keys_of_members ms) ms
all_named ms name unknown = unknown.1 (named name ms unknown.0)

-- what is written as members of these names, and is their value, is a configuration
pub reads_back : {X : Type 0} (table : Table) (value : Members → Option X) (ms written : Members) (x : X) → ms ≡ written
    → names_of table.members ≡ keys_of_members written → value written ≡ Some x → IsConfiguration table value ms x
reads_back table value ms written x same names is =
    rw (same, names) (all_named written, is)

-- also where it may not have been written
pub reads_back_if_ok : {X C E : Type 0} (table : Table) (value : Members → Option X) (members : C → Members) (answer : Result C E)
    (written : Members) (x : X)
    → IfOk answer (λ c. members c ≡ written) → names_of table.members ≡ keys_of_members written → value written ≡ Some x
    → IfOk answer (λ c. IsConfiguration table value (members c) x)
reads_back_if_ok table value members (Ok c) written x same names is = reads_back table value (members c) written x same names is
reads_back_if_ok table value members (Err _) written x same names is = tt
