-- The edges of a `rectilinear` grid are written in one way.
use Rattle.std.proofs.Common.{◌≡◌, ◌↔◌, ℕ, List, [], ◌∷◌, Some, map, refl, sym, ap, ap₂, ◌∙◌, unwrap_or}
use Rattle.std.specs.List.{AllByRecursion}
use Rattle.serde_json.specs.Data.{Members}
use Rattle.zarrs_chunk_base.specs.Grid.{Grid}
use Rattle.zarrs_chunk_base.specs.Kinds.{IsConfigurationOf}
use Rattle.zarrs_chunk_base.specs.RunLength.{EdgeLengths, IsWrittenLengths, edges_of_lengths, joined, scalar, varying}
use Rattle.zarrs_chunk_runs.proofs.Forms.{only_one}
use Rattle.zarrs_chunks.specs.GridKinds.{grid_kind, rectilinear}

-- of one dimension
same_lengths : (x y : EdgeLengths) → IsWrittenLengths x → IsWrittenLengths y → edges_of_lengths x ≡ edges_of_lengths y → x ≡ y
same_lengths (scalar edge) (scalar other) form form' same = cc
same_lengths (varying elements) (varying others) form form' same =
    let edges : joined elements ≡ joined others = cc in
    ap varying (only_one elements others form form' edges)
same_lengths (scalar edge) (varying others) form form' same = cc
same_lengths (varying elements) (scalar other) form form' same = cc

-- of all
all_same : (xs ys : List EdgeLengths) → AllByRecursion IsWrittenLengths xs → AllByRecursion IsWrittenLengths ys
    → map edges_of_lengths xs ≡ map edges_of_lengths ys → xs ≡ ys
all_same [] [] form form' same = refl
all_same (x ∷ xs) (y ∷ ys) form form' same =
    let first : edges_of_lengths x ≡ edges_of_lengths y = cc in
    let rest : map edges_of_lengths xs ≡ map edges_of_lengths ys = cc in
    ap₂ (λ z zs. z ∷ zs) (same_lengths x y form.0 form'.0 first) (all_same xs ys form.1 form'.1 rest)
all_same [] (y ∷ ys) form form' same = cc
all_same (x ∷ xs) [] form form' same = cc

pub written_alike : (shape other_shape : List ℕ) (grid other : Grid) (members others : Members)
    → IsConfigurationOf (grid_kind rectilinear) shape grid members → IsConfigurationOf (grid_kind rectilinear) other_shape other others
    → (members ≡ others) ↔ (grid.edges ≡ other.edges)
written_alike shape other_shape grid other ms others (x, accepted, made, form, written, is) (y, accepted', made', form', written', is') = (
  (λ same.
      let value : Some x ≡ Some y = sym is.1 ∙ ap (grid_kind rectilinear).value same ∙ is'.1 in
      made.1 ∙ ap (λ found. map edges_of_lengths (unwrap_or found [])) value ∙ sym made'.1),
  (λ same. written ∙ ap (grid_kind rectilinear).written (all_same x y form form' (sym made.1 ∙ same ∙ made'.1)) ∙ sym written'),
)
