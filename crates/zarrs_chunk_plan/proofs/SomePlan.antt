-- Where each chunk has a key, each box of elements of the array has a plan: the parts ahead of a walk exist. An empty box has the plan of no parts.
use Rattle.zarrs_chunk_plan.proofs.Common.{◌≡◌, ◌≢◌, ◌∙◌, ℕ, suc, ◌+◌, ◌-◌, ◌<◌, ◌≤◌, List, [], ◌∷◌, ap, ap₂, length, map, refl, subst, sym, ⊎_elim, arith}
use Rattle.zarrs_chunk_plan.proofs.Common.{AllByRecursion, AllZip, Box, IsBox, IsEmptyBox, IsInside, zero_box, ends, lasts, Dimension, Holds, InBox, IsChain}
use Rattle.zarrs_chunk_plan.proofs.Common.{IsShape, array_sizes, AllFit, greatest, AreBelow, IsCover, chunks_in, are_those_inside, inside_fits}
use Rattle.zarrs_chunk_plan.proofs.Common.{counted_home, IsPart, IsPlan, Meets, Part, HasKeys}
use Rattle.zarrs_chunk_base.proofs.InEach.{by_dimension}
use Rattle.zarrs_chunks.proofs.Boxes.{has_origin}
use Rattle.zarrs_chunks.proofs.Covers.{chunks_small, firsts_before_lasts, in_order, is_cover, lasts_small}
use Rattle.zarrs_chunks.proofs.UpTo.{ones_fit}
use Rattle.zarrs_chunk_plan.proofs.Plans.{chunk_of, covers_none, covers_some, empty_or_some, meet_each, none_in_zeros, not_empty_if_inside}
use Rattle.zarrs_chunk_parts.specs.Plan.{Covers}
use Rattle.zarrs_chunk_plan.proofs.counts.Written.{first_within, last_within}
use Rattle.zarrs_chunk_parts.proofs.Shares.{boxes_are, from_chunk, from_start, has_all_of}
use Rattle.zarrs_chunk_parts.proofs.Wholes.{test_rest}

-- ---- one chunk

pub has_shape : (ds : List Dimension) (chunk index : List ℕ) → InBox ds chunk index → (edges : List ℕ) × IsShape ds chunk edges
has_shape =
    by_dimension Holds (λ ds chunk index. (edges : List ℕ) × IsShape ds chunk edges) ([], tt)
    (λ d c i ds chunk index here rest.
    let (edges, are) = rest in
    ((d.end c - d.start c) ∷ edges, (record { chunk = here.chunk; edge = omega arith }, are)))

-- a chunk that holds an index of 64-bit numbers has such numbers
pub chunk_fits : (ds : List Dimension) → AllByRecursion IsChain ds → (chunk index : List ℕ) → InBox ds chunk index → AllFit index → AllFit chunk
chunk_fits ds chains chunk index = chunks_small (λ n. n ≤ greatest) (λ m n low fits. omega arith) ds chunk index chains

-- ---- the cover of a box of elements of the array

-- how many numbers there are from the first to the last one, in each dimension
sizes_between : (first last : List ℕ) → AllZip ◌≤◌ first last
    → (sizes : List ℕ) × (length first ≡ length sizes) × (ends first sizes ≡ map (λ n. n + 1) last)
sizes_between [] [] order = ([], refl, refl)
sizes_between (f ∷ first) (l ∷ last) order =
    let (sizes, lengths, same) = sizes_between first last order.1 in
    let here : f + (l - f + 1) ≡ l + 1 = omega arith in
    ((l - f + 1) ∷ sizes, ap suc lengths, ap₂ (λ n ns. n ∷ ns) here same)
sizes_between _ _ order = absurd order

pub has_cover : (ds : List Dimension) → AllByRecursion IsChain ds → (b : Box) → IsBox b → (¬ IsEmptyBox b)
    → ((index : List ℕ) → IsInside b index → (chunk : List ℕ) × InBox ds chunk index) → (cover : Box) × IsCover ds b cover
has_cover ds chains b is_box some homes =
    let end = lasts b.start b.shape in
    let inside = first_within b.start b.shape is_box.lengths some in
    let also = last_within b.start b.shape is_box.lengths some in
    let (first, in_first) = homes b.start inside in
    let (last, in_last) = homes end also in
    let order = in_order ds first last b.start end chains (firsts_before_lasts b.start b.shape is_box.lengths) in_first in_last in
    let end_small = lasts_small b.start b.shape is_box.lengths is_box.fits some in
    let small = chunks_small (λ n. n < greatest) (λ m n low below. omega arith) ds last end chains in_last end_small in
    let (sizes, lengths, same) = sizes_between first last order in
    let cover : Box = record { start = first; shape = sizes } in
    (cover, is_cover ds b cover first last (record { lengths = lengths; fits = rw same (ones_fit last small) }) refl same order in_first in_last)

-- the indices of an array have homes
pub array_homes : (ds : List Dimension) → AllByRecursion IsChain ds → (b : Box)
    → ((index : List ℕ) → IsInside b index → AreBelow (array_sizes ds) index) → (index : List ℕ) → IsInside b index
    → (chunk : List ℕ) × InBox ds chunk index
array_homes ds chains b within index inside = let (chunk, _, box) = counted_home ds index chains (within index inside) in (chunk, box)

-- a box whose elements have homes has a cover, also an empty one
pub covers_all : (ds : List Dimension) → AllByRecursion IsChain ds → (b : Box) → IsBox b
    → ((index : List ℕ) → IsInside b index → (chunk : List ℕ) × InBox ds chunk index) → (cover : Box) × Covers ds b cover
covers_all ds chains b is_box homes =
    ⊎_elim
    (λ empty.
    let (k, counted, _) = empty in
    (zero_box (length b.shape), covers_none ds b (length b.shape) (λ none. absurd (omega arith)) empty))
    (λ some. let (cover, is) = has_cover ds chains b is_box some homes in (cover, covers_some ds b cover chains is_box some is))
    (empty_or_some b.shape)

-- ---- the parts

pub each_has : {X Y : Type 0} (P : X → Type 0) (R : X → Y → Type 0) → ((x : X) → P x → (y : Y) × R x y) → (xs : List X) → AllByRecursion P xs
    → (ys : List Y) × AllZip R xs ys
each_has P R has [] all = ([], tt)
each_has P R has (x ∷ xs) all =
    let (y, is) = has x all.0 in
    let (ys, are) = each_has P R has xs all.1 in
    (y ∷ ys, (is, are))

module _ (ds : List Dimension) (IsKey : List ℕ → List ℕ → Type 0) (chains : AllByRecursion IsChain ds) (keys : HasKeys IsKey) where
  pub has_part : (b : Box) → IsBox b → (chunk : List ℕ) → Meets ds b chunk → (part : Part) × IsPart ds IsKey b chunk part
  has_part b is_box chunk meets =
      let (index, box, inside) = meets in
      let fit = inside_fits b.start b.shape index is_box.fits inside in
      let (origin, is, _) = has_origin ds chunk index box fit in
      let (edges, long) = has_shape ds chunk index box in
      let (key, is_key) = keys chunk (chunk_fits ds chains chunk index box fit) in
      let (_, _, shared) = boxes_are ds b chunk origin edges is_box meets is long in
      let (starts, lengths, sizes, same) = has_all_of ds b chunk origin edges is_box meets is long in
      let (whole, told) = test_rest b origin edges (array_sizes ds) lengths sizes starts (sym is_box.lengths ∙ starts) in (
        record {
          key = key;
          chunk = record { items = chunk; capacity = 0 };
          shape = record { items = edges; capacity = 0 };
          whole = whole;
          in_chunk = from_chunk origin edges b;
          in_selection = from_start origin edges b;
        },
        record {
          numbers = refl;
          key = is_key;
          shape = long;
          whole = (λ t. same.0 (told.0 t), λ has. told.1 (same.1 has));
          boxes = shared;
        },
      )

  pub have_parts : (b : Box) → IsBox b → (chunks : List (List ℕ)) → AllByRecursion (Meets ds b) chunks
      → (parts : List Part) × AllZip (IsPart ds IsKey b) chunks parts
  have_parts b is_box = each_has (Meets ds b) (IsPart ds IsKey b) (has_part b is_box)

  -- over a cover there is a plan
  pub plan_over : (b cover : Box) → IsBox b → Covers ds b cover → (parts : List Part) × IsPlan ds IsKey b parts
  plan_over b cover is_box is =
      let (parts, are) = have_parts b is_box (chunks_in cover) (meet_each is) in (parts, record { cover = cover; is_cover = is; are_parts = are })

  pub has_plan : (b : Box) → IsBox b → ((index : List ℕ) → IsInside b index → AreBelow (array_sizes ds) index)
      → (parts : List Part) × IsPlan ds IsKey b parts
  has_plan b is_box within =
      let (cover, is) = covers_all ds chains b is_box (array_homes ds chains b within) in plan_over b cover is_box is

-- ---- an empty box

pub no_plan : (ds : List Dimension) (IsKey : List ℕ → List ℕ → Type 0) (b : Box) (parts : List Part) → IsEmptyBox b → IsPlan ds IsKey b parts
    → parts ≡ []
no_plan ds IsKey b [] empty plan = refl
no_plan ds IsKey b (part ∷ parts) empty plan =
    let (chunk, among, _) = chunk_of plan part (0, omega arith, refl) in
    let (index, _, inside) = (plan.is_cover.named chunk).0 ((are_those_inside plan.cover plan.is_cover.is_box chunk).0 among) in
    absurd (not_empty_if_inside b.start b.shape index inside empty)

pub plan_of_none : (ds : List Dimension) (IsKey : List ℕ → List ℕ → Type 0) (b : Box) → IsEmptyBox b → IsPlan ds IsKey b []
plan_of_none ds IsKey b empty =
    let (k, counted, _) = empty in
    let some : length b.shape ≢ 0 = λ none. absurd (omega arith) in
    record {
      cover = zero_box (length b.shape);
      is_cover = covers_none ds b (length b.shape) some empty;
      are_parts = subst (λ chunks. AllZip (IsPart ds IsKey b) chunks []) (sym (none_in_zeros (length b.shape) some)) tt;
    }
