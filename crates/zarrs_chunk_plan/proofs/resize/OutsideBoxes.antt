-- The boxes of the chunks that are below one list of numbers and not below another.
use Rattle.zarrs_chunk_plan.proofs.Common.{◌≡◌, ◌≢◌, ◌↔◌, ◌⊎◌, ◌∙◌, ℕ, zero, suc, ◌-◌, ◌<◌, ◌≤◌, List, [], ◌∷◌, ◌++◌, Contains, get_or, length, Bool}
use Rattle.zarrs_chunk_plan.proofs.Common.{append-nil, map, replicate, set, refl, ap, inl, inr, subst, sym, ⊎_elim, arith, AreWithin, Box, IsBox}
use Rattle.zarrs_chunk_plan.proofs.Common.{IsEmptyBox, IsInside, AreBelow, chunks_in, counted_from, are_those_inside, chunks_once, chunks_of_boxes}
use Rattle.zarrs_chunk_plan.proofs.Common.{pairwise_min}
use Rattle.std.proofs.Common.{length-set}
use Rattle.std.proofs.lemmas.Grind.{flat_map-append, same_number_lists}
use Rattle.std.proofs.lemmas.List.{get_or-set_other, get_or-set_same}
use Rattle.zarrs_chunk_plan.specs.seen.Outside.{AreOnce, IsOutside, IsToldBefore}
use Rattle.zarrs_chunk_plan.proofs.shares.Between.{none_below}
use Rattle.zarrs_chunk_plan.proofs.BoxCover.{below_from_zero}
use Rattle.zarrs_chunk_plan.proofs.copy.Joined.{has_either, pairs_of_both}

-- ---- what a box gets that grows along one dimension

abbrev pub AddedTo : (shape : List ℕ) (k size : ℕ) → List ℕ → Type 0
AddedTo shape k size = AreWithin (set (replicate (length shape) 0) k (get_or shape k 0)) (set shape k (size - get_or shape k 0))

pub together : (shape : List ℕ) (k size : ℕ) (chunk : List ℕ) → k < length shape → get_or shape k 0 ≤ size
    → AreBelow (set shape k size) chunk ↔ (AreBelow shape chunk ⊎ AddedTo shape k size chunk)
together [] k size chunk within grows = absurd (omega arith)
together (n ∷ shape) zero size [] within grows = (λ h. absurd h, λ h. ⊎_elim (λ a. absurd a) (λ a. absurd a) h)
together (n ∷ shape) (suc k) size [] within grows = (λ h. absurd h, λ h. ⊎_elim (λ a. absurd a) (λ a. absurd a) h)
together (n ∷ shape) zero size (c ∷ chunk) within grows =
    let others = below_from_zero (length shape) shape chunk refl in grind arith
together (n ∷ shape) (suc k) size (c ∷ chunk) within grows =
    let rest = together shape k size chunk (omega arith) grows in grind arith

pub parted : (shape : List ℕ) (k size : ℕ) (chunk : List ℕ) → k < length shape → AreBelow shape chunk → ¬ AddedTo shape k size chunk
parted [] k size chunk within below added = absurd (omega arith)
parted (_ ∷ _) k size [] within below added = below
parted (n ∷ shape) zero size (c ∷ chunk) within below added =
    absurd (grind arith)
parted (n ∷ shape) (suc k) size (c ∷ chunk) within below added = parted shape k size chunk (omega arith) below.1 added.2

-- ---- the boxes so far

-- a box that begins at 0 has grown along the last dimensions, and these boxes have what it got
pub record HasGrown (inner outer : List ℕ) (left : ℕ) (shape : List ℕ) (boxes : List Box) : Type 0 where
  pub long : length shape ≡ length outer
  pub within : (k : ℕ) → k < length outer → get_or shape k 0 ≤ get_or outer k 0
  pub grown : (k : ℕ) → left ≤ k → k < length outer → get_or shape k 0 ≡ get_or outer k 0
  pub those : (chunk : List ℕ) → AreBelow shape chunk ↔ (AreBelow inner chunk ⊎ Contains (chunks_of_boxes boxes) chunk)
  pub apart : (chunk : List ℕ) → AreBelow inner chunk → ¬ Contains (chunks_of_boxes boxes) chunk
  pub once : AreOnce (chunks_of_boxes boxes)

-- of two lists the lesser numbers
pairwise_min_long : (inner outer : List ℕ) → length inner ≡ length outer → length (pairwise_min inner outer) ≡ length outer
pairwise_min_long [] [] same = refl
pairwise_min_long (_ ∷ inner) (_ ∷ outer) same = ap suc (pairwise_min_long inner outer (omega arith))
pairwise_min_long _ _ same = absurd (omega arith)

pairwise_min_within : (inner outer : List ℕ) → length inner ≡ length outer → (k : ℕ) → k < length outer → get_or (pairwise_min inner outer) k 0 ≤ get_or outer k 0
pairwise_min_within (m ∷ inner) (n ∷ outer) same zero within = omega arith
pairwise_min_within (m ∷ inner) (n ∷ outer) same (suc k) within = pairwise_min_within inner outer (omega arith) k (omega arith)
pairwise_min_within _ _ same k within = absurd (omega arith)

pairwise_min_below : (inner outer chunk : List ℕ) → length inner ≡ length outer
    → AreBelow (pairwise_min inner outer) chunk ↔ (AreBelow inner chunk × AreBelow outer chunk)
pairwise_min_below [] [] chunk same = (λ h. (h, h), λ (h, _). h)
pairwise_min_below (m ∷ inner) (n ∷ outer) (c ∷ chunk) same =
    let rest = pairwise_min_below inner outer chunk (omega arith) in grind arith
pairwise_min_below _ _ _ same = (λ h. absurd (first_of (assumption, omega arith)), λ (h, _). absurd (first_of (assumption, omega arith)))

none_in : (chunk : List ℕ) → ¬ Contains (chunks_of_boxes []) chunk
none_in chunk (k, within, is) = omega arith

pub not_grown : (inner outer : List ℕ) → length inner ≡ length outer → HasGrown (pairwise_min inner outer) outer (length outer) (pairwise_min inner outer) []
not_grown inner outer same = record {
  long = pairwise_min_long inner outer same;
  within = pairwise_min_within inner outer same;
  grown = λ k from below. absurd (omega arith);
  those = λ chunk. (λ below. inl below, λ either. ⊎_elim (λ below. below) (λ has. absurd (none_in chunk has)) either);
  apart = λ chunk below. none_in chunk;
  once = λ i j d before within. absurd (omega arith);
}

-- the chunks of one box more
pub one_box_more : (boxes : List Box) (added : Box) → chunks_of_boxes (boxes ++ added ∷ []) ≡ chunks_of_boxes boxes ++ chunks_in added
one_box_more boxes added = flat_map-append chunks_in boxes (added ∷ []) ∙ ap (λ xs. chunks_of_boxes boxes ++ xs) (append-nil (chunks_in added))

-- an empty one has none
pub no_box_more : (boxes : List Box) (added : Box) → IsEmptyBox added → chunks_of_boxes boxes ≡ chunks_of_boxes boxes ++ chunks_in added
no_box_more boxes added empty =
    let nothing : chunks_in added ≡ [] = ap (map (counted_from added.start)) (none_below added.shape empty) in
    rw nothing (sym (append-nil (chunks_of_boxes boxes)))

pub grown_more : (inner outer : List ℕ) (left : ℕ) (shape : List ℕ) (boxes more : List Box) (added : Box) → left < length outer
    → HasGrown inner outer (suc left) shape boxes → IsBox added
    → chunks_of_boxes more ≡ chunks_of_boxes boxes ++ chunks_in added
    → ((chunk : List ℕ) → AreBelow (set shape left (get_or outer left 0)) chunk ↔ (AreBelow shape chunk ⊎ IsInside added chunk))
    → ((chunk : List ℕ) → AreBelow shape chunk → ¬ IsInside added chunk)
    → HasGrown inner outer left (set shape left (get_or outer left 0)) more
grown_more inner outer left shape boxes more added below_all so_far is_box are both differ =
    let size = get_or outer left 0 in
    let long = so_far.long in
    let in_added = are_those_inside added is_box in
    record {
      long = length-set shape left size ∙ long;
      within = λ k below.
          let was = so_far.within k below in
          grind (arith, get_or-set_same, get_or-set_other);
      grown = λ k from below.
          let was = so_far.grown k in
          grind (arith, get_or-set_same, get_or-set_other);
      those = λ chunk.
          let was = so_far.those chunk in
          let new = in_added chunk in
          let has = has_either (chunks_of_boxes boxes) (chunks_in added) chunk in
          rw are (grind arith);
      apart = λ chunk in_inner.
          let was = so_far.apart chunk in_inner in
          let new = differ chunk ((so_far.those chunk).1 (inl in_inner)) in
          rw are (λ has. ⊎_elim was (λ h. new ((in_added chunk).0 h)) ((has_either (chunks_of_boxes boxes) (chunks_in added) chunk).0 has));
      once = rw are
          (pairs_of_both (λ one other. one ≢ other) (chunks_of_boxes boxes) (chunks_in added) so_far.once (chunks_once added is_box)
          (λ one other was new same.
          differ other ((so_far.those other).1 (inr (subst (Contains (chunks_of_boxes boxes)) same was))) ((in_added other).0 new)));
    }

module _ (inner outer shape : List ℕ) (boxes : List Box) (same : length inner ≡ length outer)
    (all : HasGrown (pairwise_min inner outer) outer 0 shape boxes) where
  all_grown : shape ≡ outer
  all_grown = same_number_lists shape outer all.long (λ k below. all.grown k (omega arith) (omega arith))

  pub are_outside : (chunk : List ℕ) → Contains (chunks_of_boxes boxes) chunk ↔ IsOutside inner outer chunk
  are_outside chunk =
      let both = pairwise_min_below inner outer chunk same in
      let those = rw all_grown at (all.those chunk) in
      grind arith

-- ---- the boxes of two lists

module _ (include_unchanged : Bool) (before after kept : List ℕ) (old added : List Box)
    (are_old : (chunk : List ℕ) → Contains (chunks_of_boxes old) chunk ↔ IsToldBefore include_unchanged before kept chunk)
    (are_added : (chunk : List ℕ) → Contains (chunks_of_boxes added) chunk ↔ IsOutside before after chunk) where
  both_lists : chunks_of_boxes (old ++ added) ≡ chunks_of_boxes old ++ chunks_of_boxes added
  both_lists = flat_map-append chunks_in old added

  pub told_of : (chunk : List ℕ)
      → Contains (chunks_of_boxes (old ++ added)) chunk ↔ (IsToldBefore include_unchanged before kept chunk ⊎ IsOutside before after chunk)
  told_of chunk =
      let new = are_added chunk in
      let has = has_either (chunks_of_boxes old) (chunks_of_boxes added) chunk in
      rw both_lists (grind arith)

  pub told_once : AreOnce (chunks_of_boxes old) → AreOnce (chunks_of_boxes added) → AreOnce (chunks_of_boxes (old ++ added))
  told_once one other = rw both_lists
      (pairs_of_both (λ first second. first ≢ second) (chunks_of_boxes old) (chunks_of_boxes added) one other
      (λ first second was new is. ((are_added second).0 new).1 (subst (AreBelow before) is ((are_old first).0 was).0)))

-- the chunks of the box that begins at 0
pub from_zero_below : (sizes : List ℕ) (b : Box) → IsBox b → b ≡ record { start = replicate (length sizes) 0; shape = sizes } → (chunk : List ℕ)
    → Contains (chunks_in b) chunk ↔ AreBelow sizes chunk
from_zero_below sizes b is_box is chunk =
    let in_box = are_those_inside b is_box chunk in
    let inside : IsInside b chunk ↔ AreBelow sizes chunk =
    rw is (let both = below_from_zero (length sizes) sizes chunk refl in (λ h. both.1 h, λ h. both.0 h)) in
    (λ has. inside.0 (in_box.0 has), λ below. in_box.1 (inside.1 below))
