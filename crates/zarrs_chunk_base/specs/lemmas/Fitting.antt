-- Where members stand for a value, each of them fits the table.
use Rattle.std.specs.Prelude.{◌≡◌, ℕ, true, false, List, is_some, MatchOption, Option, Some, None, option_and_then, option_map, codes, refl}
use Rattle.std.specs.Option.{option_map_or}
use Rattle.std.proofs.Common.{sym, ap, true≢false}
use Rattle.serde_json.specs.Data.{Data, Members}
use Rattle.serde_json.specs.Find.{as_str, get_member}
use Rattle.std.specs.List.{AllByRecursion}
use Rattle.zarrs_chunk_base.specs.declared.chunk_key_separator.ChunkKeySeparator.{ChunkKeySeparator}
use Rattle.zarrs_chunk_base.specs.declared.chunk_key_separator.ChunkKeySeparator.TheVariants.{Slash, Dot}
use Rattle.zarrs_chunk_base.specs.DimensionEdges.{DimensionEdges}
use Rattle.zarrs_chunk_base.specs.GridConfigurations.{dimension_edges_of, inline_in, lengths_in, rectangular_table, rectangular_value}
use Rattle.zarrs_chunk_base.specs.GridConfigurations.{rectilinear_table, rectilinear_value, regular_table, regular_value}
use Rattle.zarrs_chunk_base.specs.Json.{edge_of, list_of}
use Rattle.zarrs_chunk_base.specs.KeyConfigurations.{Suffixed, default_value, separator_in, separator_table, suffix_table, suffix_value, v2_value}
use Rattle.zarrs_chunk_base.specs.RunLength.{EdgeLengths}
use Rattle.zarrs_chunk_base.specs.Configuration.{IsFitting, optional, required, value_of, value_or}

found_fits : {X : Type 0} (form : Data → Option X) (found : Option Data) (x : X) → option_and_then form found ≡ Some x
    → MatchOption found (true ≡ false) (λ d. is_some (form d) ≡ true)
found_fits form None x is = sym (ap is_some is)
found_fits form (Some d) x is = ap is_some is

-- a member that has to be there
required_fits : {X : Type 0} (name : List ℕ) (form : Data → Option X) (members : Members) (x : X) → value_of name form members ≡ Some x
    → IsFitting members (required name form)
required_fits name form members x is = found_fits form (get_member name members) x is

found_or_fits : {X : Type 0} (form : Data → Option X) (found : Option Data) (usual x : X) → option_map_or form found (Some usual) ≡ Some x
    → MatchOption found (false ≡ false) (λ d. is_some (form d) ≡ true)
found_or_fits form None usual x is = refl
found_or_fits form (Some d) usual x is = ap is_some is

-- a member that may be absent
optional_fits : {X : Type 0} (usual : X) (name : List ℕ) (form : Data → Option X) (members : Members) (x : X)
    → value_or usual name form members ≡ Some x → IsFitting members (optional name form)
optional_fits usual name form members x is = found_or_fits form (get_member name members) usual x is

both_some : {X Y : Type 0} (first : Option X) (second : Option Y) (x : X) → option_and_then (λ v. option_map (λ _. v) second) first ≡ Some x
    → (first ≡ Some x) × ((y : Y) × (second ≡ Some y))
both_some None second x is = absurd (true≢false (sym (ap is_some is)))
both_some (Some v) None x is = absurd (true≢false (sym (ap is_some is)))
both_some (Some v) (Some y) x is = (is, (y, refl))

-- two members that have to be there, of which the first is kept
both_fit : {X Y : Type 0} (name other : List ℕ) (form : Data → Option X) (other_form : Data → Option Y) (members : Members) (x : X)
    → option_and_then (λ v. option_map (λ _. v) (value_of other other_form members)) (value_of name form members) ≡ Some x
    → IsFitting members (required name form) × IsFitting members (required other other_form)
both_fit name other form other_form members x is =
    let both = both_some (value_of name form members) (value_of other other_form members) x is in
    (required_fits name form members x both.0, required_fits other other_form members both.1.0 both.1.1)

-- ---- the configurations

pub regular_fits : (members : Members) (x : List ℕ) → regular_value members ≡ Some x → AllByRecursion (IsFitting members) regular_table.members
regular_fits members x is = (required_fits (codes "chunk_shape") (list_of edge_of) members x is, tt)

pub rectangular_fits : (members : Members) (x : List DimensionEdges) → rectangular_value members ≡ Some x
    → AllByRecursion (IsFitting members) rectangular_table.members
rectangular_fits members x is = (required_fits (codes "chunk_shape") (list_of dimension_edges_of) members x is, tt)

pub rectilinear_fits : (members : Members) (x : List EdgeLengths) → rectilinear_value members ≡ Some x
    → AllByRecursion (IsFitting members) rectilinear_table.members
rectilinear_fits members x is =
    let both = both_fit (codes "chunk_shapes") (codes "kind") (list_of lengths_in) inline_in members x is in
    (both.0, (both.1, tt))

pub default_fits : (members : Members) (x : ChunkKeySeparator) → default_value members ≡ Some x
    → AllByRecursion (IsFitting members) separator_table.members
default_fits members x is = (optional_fits Slash (codes "separator") separator_in members x is, tt)

pub v2_fits : (members : Members) (x : ChunkKeySeparator) → v2_value members ≡ Some x → AllByRecursion (IsFitting members) separator_table.members
v2_fits members x is = (optional_fits Dot (codes "separator") separator_in members x is, tt)

made_of_both : {X Y Z : Type 0} (make : X → Y → Z) (first : Option X) (second : Option Y) (z : Z)
    → option_and_then (λ x. option_map (λ y. make x y) second) first ≡ Some z → ((x : X) × (first ≡ Some x)) × ((y : Y) × (second ≡ Some y))
made_of_both make None second z is = absurd (true≢false (sym (ap is_some is)))
made_of_both make (Some x) None z is = absurd (true≢false (sym (ap is_some is)))
made_of_both make (Some x) (Some y) z is = ((x, refl), (y, refl))

pub suffix_fits : (members : Members) (x : Suffixed) → suffix_value members ≡ Some x → AllByRecursion (IsFitting members) suffix_table.members
suffix_fits members x is =
    let both = made_of_both (λ separator suffix. record { separator = separator; suffix = suffix }) (default_value members)
    (value_of (codes "suffix") as_str members) x is
    in (
      optional_fits Slash (codes "separator") separator_in members both.0.0 both.0.1,
      (required_fits (codes "suffix") as_str members both.1.0 both.1.1, tt),
    )
