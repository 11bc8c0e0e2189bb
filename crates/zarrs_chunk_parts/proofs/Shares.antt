-- The elements that a chunk and a box share.
use Rattle.std.proofs.Common.{◌≡◌, ◌↔◌, ℕ, suc, ◌+◌, ◌-◌, ◌<◌, ◌≤◌, List, [], ◌∷◌, length, max, refl, ap, ap₂, subst, sym, ◌∙◌, arith}
use Rattle.std.proofs.lemmas.List.{length-map}
use Rattle.zarrs_chunk_base.specs.ArraySubset.{AreWithin, Box, IsBox}
use Rattle.zarrs_chunk_base.specs.Dimension.{Dimension, HasEdge, Holds, InBox, IsOrigin, IsShape, StartsAt, array_sizes}
use Rattle.zarrs_chunk_base.specs.Greatest.{greatest, AllFit}
use Rattle.zarrs_chunk_base.proofs.Boxes.{within_lengths}
use Rattle.zarrs_chunk_base.proofs.InEach.{by_dimension_twice, length_values, same_values}
use Rattle.zarrs_chunks.specs.Walks.{counted_from}
use Rattle.zarrs_chunks.proofs.Boxes.{has_origin}
use Rattle.zarrs_chunks.proofs.ChunksInBoxes.{inside_fits}
use Rattle.zarrs_chunk_parts.specs.Plan.{AreShared, HasAllOf, Meets}
use Rattle.zarrs_chunk_parts.specs.seen.Shared.{HoldsRest, distances, later_starts, shared_sizes}
use Rattle.zarrs_chunk_parts.proofs.Overlaps.{overlap_holds, overlap_is_box}

-- what is counted from the earlier to the later of two starts reaches the later one, from either
reach_later : (one other : List ℕ)
    → (later_starts one other ≡ counted_from one (distances one other)) × (later_starts one other ≡ counted_from other (distances other one))
reach_later (s ∷ one) (t ∷ other) =
    let here : max s t ≡ s + (t - s) = omega arith in
    let also : max s t ≡ t + (s - t) = omega arith in
    let (rest, rest_also) = reach_later one other in
    (ap₂ (λ x xs. x ∷ xs) here rest, ap₂ (λ x xs. x ∷ xs) also rest_also)
reach_later [] [] = (refl, refl)
reach_later [] (_ ∷ _) = (refl, refl)
reach_later (_ ∷ _) [] = (refl, refl)

-- a box that is counted from an earlier start is one
counted_is_box : (from to sizes : List ℕ) → length to ≡ length from → IsBox (record { start = counted_from from (distances from to); shape = sizes })
    → IsBox (record { start = distances from to; shape = sizes })
counted_is_box [] [] [] same is = is
counted_is_box (f ∷ from) (t ∷ to) (n ∷ sizes) same is =
    let end : f + (t - f) + n ≤ greatest = is.fits.0 in
    let rest = counted_is_box from to sizes (omega arith) (record { lengths = omega (arith, is.lengths); fits = is.fits.1 }) in
    record { lengths = ap suc rest.lengths; fits = (omega arith, rest.fits) }
counted_is_box _ _ _ same is = absurd (omega (arith, is.lengths))

-- a chunk's indices are those from its origin on, as many as it is long
abbrev HoldSame : List Dimension → List ℕ → List ℕ → List ℕ → Type 0
HoldSame ds chunk origin edges = (index : List ℕ) → AreWithin origin edges index ↔ InBox ds chunk index

in_box : (ds : List Dimension) (chunk origin edges : List ℕ) → IsOrigin ds chunk origin → IsShape ds chunk edges → HoldSame ds chunk origin edges
in_box = by_dimension_twice StartsAt HasEdge HoldSame none more where
  none : HoldSame [] [] [] []
  none [] = (λ _. tt, λ _. tt)
  none (_ ∷ _) = (λ h. h, λ h. h)

  more : (d : Dimension) (c o e : ℕ) (ds : List Dimension) (chunk origin edges : List ℕ) → StartsAt d c o → HasEdge d c e
      → HoldSame ds chunk origin edges → HoldSame (d ∷ ds) (c ∷ chunk) (o ∷ origin) (e ∷ edges)
  more d c o e ds chunk origin edges starts long rest [] = (λ h. h, λ h. h)
  more d c o e ds chunk origin edges starts long rest (i ∷ index) =
      let start = starts.start in
      let edge = long.edge in (
        λ within.
            let from : o ≤ i = within.0 in
            let below : i < o + e = within.1 in
            (record { chunk = starts.chunk; from = omega arith; below = omega arith }, (rest index).0 within.2),
        λ box. let from = box.0.from in let below = box.0.below in (omega arith, omega arith, (rest index).1 box.1),
      )

-- the origin that was found fits
origin_fits : (ds : List Dimension) (b : Box) (chunk origin : List ℕ) → IsBox b → Meets ds b chunk → IsOrigin ds chunk origin → AllFit origin
origin_fits ds b chunk origin is_box (index, box, inside) is =
    let (other, is_other, fit) = has_origin ds chunk index box (inside_fits b.start b.shape index is_box.fits inside) in
    subst AllFit (same_values StartsAt (λ d c x y one also. sym one.start ∙ also.start) ds chunk other origin is_other is) fit

abbrev pub from_chunk : List ℕ → List ℕ → Box → Box
from_chunk origin edges b = record { start = distances origin b.start; shape = shared_sizes origin edges b.start b.shape }

abbrev pub from_start : List ℕ → List ℕ → Box → Box
from_start origin edges b = record { start = distances b.start origin; shape = shared_sizes origin edges b.start b.shape }

pub boxes_are : (ds : List Dimension) (b : Box) (chunk origin edges : List ℕ) → IsBox b → Meets ds b chunk → IsOrigin ds chunk origin
    → IsShape ds chunk edges → IsBox (from_chunk origin edges b) × IsBox (from_start origin edges b)
    × AreShared ds b chunk (from_chunk origin edges b) (from_start origin edges b)
boxes_are ds b chunk origin edges is_box meets is long = (in_chunk, in_selection, shared) where
  edges_many : length edges ≡ length origin
  edges_many = length_values HasEdge ds chunk edges long ∙ sym (length_values StartsAt ds chunk origin is)

  start_many : length b.start ≡ length origin
  start_many =
      let (index, box, inside) = meets in
      sym (within_lengths b.start b.shape index inside) ∙ length_values Holds ds chunk index box ∙ sym (length_values StartsAt ds chunk origin is)

  shared_is_box : IsBox (record { start = later_starts origin b.start; shape = shared_sizes origin edges b.start b.shape })
  shared_is_box =
      let fit = origin_fits ds b chunk origin is_box meets is in
      overlap_is_box origin edges b.start b.shape (sym edges_many) is_box.lengths (sym start_many) fit is_box.fits

  in_chunk : IsBox (from_chunk origin edges b)
  in_chunk = counted_is_box origin b.start _ start_many (rw (← (reach_later origin b.start).0) shared_is_box)

  in_selection : IsBox (from_start origin edges b)
  in_selection = counted_is_box b.start origin _ (sym start_many) (rw (← (reach_later origin b.start).1) shared_is_box)

  shared : AreShared ds b chunk (from_chunk origin edges b) (from_start origin edges b)
  shared = record {
    shared = record { start = later_starts origin b.start; shape = shared_sizes origin edges b.start b.shape };
    is_box = shared_is_box;
    elements = λ index.
        let box = in_box ds chunk origin edges is long index in
        let both = overlap_holds origin edges b.start b.shape index (sym edges_many) is_box.lengths (sym start_many) is_box.fits in
        (λ within. let (one, other) = both.0 within in (box.0 one, other), λ (one, other). both.1 (box.1 one, other));
    origin = origin;
    is_origin = is;
    from_chunk = record { is_box = in_chunk; start = (reach_later origin b.start).0; shape = refl };
    from_subset = record { is_box = in_selection; start = (reach_later origin b.start).1; shape = refl };
  }

-- the box has all that the chunk has of the array where it has all from the chunk's origin on, as far as its edges and the array reach
pub has_all_of : (ds : List Dimension) (b : Box) (chunk origin edges : List ℕ) → IsBox b → Meets ds b chunk → IsOrigin ds chunk origin
    → IsShape ds chunk edges
    → (length b.start ≡ length origin) × (length edges ≡ length origin) × (length (array_sizes ds) ≡ length origin)
    × (HoldsRest b origin edges (array_sizes ds) ↔ HasAllOf ds b chunk)
has_all_of ds b chunk origin edges is_box meets is long =
    let (index, box, inside) = meets in
    let many = length_values StartsAt ds chunk origin is in
    let held = in_box ds chunk origin edges is long in (
      sym (within_lengths b.start b.shape index inside) ∙ length_values Holds ds chunk index box ∙ sym many,
      length_values HasEdge ds chunk edges long ∙ sym many,
      length-map ds (λ (d : Dimension). d.array_size) ∙ sym many,
      (
        λ rest other in_chunk in_array. rest other ((held other).1 in_chunk) in_array,
        λ has other in_chunk in_array. has other ((held other).0 in_chunk) in_array,
      ),
    )
