-- What members are left where one was taken out.
use Rattle.std.proofs.Common.{◌≡◌, ◌≢◌, ℕ, Bool, true, false, cond, List, [], ◌∷◌, Some, String, Global, None, option_map, unwrap_or, string_bytes}
use Rattle.std.proofs.Common.{refl, sym, ap, ◌∙◌}
use Rattle.std.proofs.lemmas.Bool.{false_from_ne_true}
use Rattle.std.proofs.lemmas.Option.{none-some}
use Rattle.std.proofs.lemmas.Map.Text.{is_eq-slice_cmp}
use Rattle.std.proofs.lemmas.Slice.Eq.{bytes_eq-Decides}
use Rattle.std.specs.BTreeMap.{is_at}
use Rattle.std.specs.Cmp.Lexicographic.{slice_cmp}
use Rattle.std.specs.Map.{lookup, remove_entry}
use Rattle.std.specs.Ordering.{nat_cmp}
use Rattle.serde_json.specs.Data.{Data, null, boolean, number, string, array, object, Members}
use Rattle.serde_json.specs.Find.{as_object, get, get_member}
use Rattle.serde_json.specs.View.{view, members_view}
use Rattle.serde_json.specs.declared.value.Value.{Value}
use Rattle.serde_json.proofs.Views.{view-lookup}

-- what other keys are looked up for stays
module _ {K X : Type 0} (test other : K → Bool) (apart : (k : K) → test k ≡ true → other k ≡ true → ⊥) where
  lookup_stays : (es : List (K × X)) → lookup other (remove_entry test es) ≡ lookup other es
  lookup_stays [] = refl
  lookup_stays (e ∷ es) = by (test e.0) refl (lookup_stays es)
    where
      by : (taken : Bool) → test e.0 ≡ taken → lookup other (remove_entry test es) ≡ lookup other es
          → lookup other (cond taken es (e ∷ remove_entry test es)) ≡ lookup other (e ∷ es)
      by true is later = sym (ap (λ here. cond here (Some e.1) (lookup other es)) (false_from_ne_true (other e.0) (apart e.0 is)))
      by false is later = ap (cond (other e.0) (Some e.1)) later

-- whether a key is a name
abbrev is_name : List ℕ → String Global → Bool
is_name name = is_at (λ k. slice_cmp nat_cmp name (string_bytes k))

-- the key of a name has the name's bytes
bytes_of_name : (name : List ℕ) (k : String Global) → is_name name k ≡ true → name ≡ string_bytes k
bytes_of_name name k is = (bytes_eq-Decides name (string_bytes k)).0 (sym (is_eq-slice_cmp name (string_bytes k)) ∙ is)

-- the members of other names are those that were there
pub others_stay : (name other : List ℕ) (es : List (String Global × Value)) → other ≢ name
    → get_member other (members_view (remove_entry (is_name name) es)) ≡ get_member other (members_view es)
others_stay name other es differs =
    sym (view-lookup other (remove_entry (is_name name) es))
    ∙ ap (option_map view)
    (lookup_stays (is_name name) (is_name other) (λ k one both. differs (bytes_of_name other k both ∙ sym (bytes_of_name name k one))) es)
    ∙ view-lookup other es

-- a name is looked up in an object's members
pub in_members : (d : Data) (ms : Members) (name : List ℕ) → Some ms ≡ as_object d → get name d ≡ get_member name ms
in_members (object ms) other name is = ap (λ found. unwrap_or (option_map (get_member name) found) None) (sym is)
in_members null ms name is = absurd (none-some ms (sym is))
in_members (boolean b) ms name is = absurd (none-some ms (sym is))
in_members (number n) ms name is = absurd (none-some ms (sym is))
in_members (string s) ms name is = absurd (none-some ms (sym is))
in_members (array ds) ms name is = absurd (none-some ms (sym is))
