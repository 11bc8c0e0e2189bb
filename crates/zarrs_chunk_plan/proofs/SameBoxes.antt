-- Boxes that hold the same are the same.
use Rattle.zarrs_chunk_plan.proofs.Common.{◌≡◌, ◌↔◌, ◌∙◌, ℕ, ◌+◌, ◌-◌, ◌<◌, ◌≤◌, List, [], ◌∷◌, map, refl, ap, ap₂, sym, ⊎_elim, arith, AreWithin}
use Rattle.zarrs_chunk_plan.proofs.Common.{Box, IsBox, IsEmptyBox, IsInside, within_lengths, chunks_in, counted_from}
use Rattle.zarrs_chunk_plan.proofs.shares.Between.{none_below}
use Rattle.zarrs_chunk_plan.proofs.Plans.{empty_or_some, not_empty_if_inside}
use Rattle.zarrs_chunk_plan.proofs.counts.Written.{first_within}

-- two ranges with the same numbers, of which there are some
same_ranges : (a n b m i : ℕ) → a ≤ i → i < a + n → ((j : ℕ) → ((a ≤ j) × (j < a + n)) ↔ ((b ≤ j) × (j < b + m))) → (a ≡ b) × (n ≡ m)
same_ranges a n b m i from below same =
    let first = same a in
    let last = same (a + (n - 1)) in
    let first_back = same b in
    let last_back = same (b + (m - 1)) in
    grind arith

-- two boxes with the same members, of which there is one
same_lists : (start shape index other others : List ℕ) → AreWithin start shape index → AreWithin other others index
    → ((x : List ℕ) → AreWithin start shape x ↔ AreWithin other others x) → (start ≡ other) × (shape ≡ others)
same_lists [] [] [] [] [] within also same = (refl, refl)
same_lists (a ∷ start) (n ∷ shape) (i ∷ index) (b ∷ other) (m ∷ others) within also same =
    let (first, size) = same_ranges a n b m i within.0 within.1 (λ j. let there = same (j ∷ index) in grind arith) in
    let (rest, sizes) = same_lists start shape index other others within.2 also.2 (λ x. let there = same (i ∷ x) in grind arith) in
    (ap₂ (λ x xs. x ∷ xs) first rest, ap₂ (λ x xs. x ∷ xs) size sizes)
same_lists _ _ index other others within also same = absurd (first_of (assumption, omega (arith, within_lengths other others index also)))

pub same_box_of : (one other : Box) (index : List ℕ) → IsInside one index → ((x : List ℕ) → IsInside one x ↔ IsInside other x) → one ≡ other
same_box_of one other index inside same =
    let (start, shape) = same_lists one.start one.shape index other.start other.shape inside ((same index).0 inside) same in
    ap₂ (λ (first sizes : List ℕ). record { start = first; shape = sizes }) start shape

-- boxes of chunk numbers that hold the same have the same chunks
pub chunks_of_same : (one other : Box) → IsBox one → IsBox other → ((chunk : List ℕ) → IsInside one chunk ↔ IsInside other chunk)
    → chunks_in one ≡ chunks_in other
chunks_of_same one other is_box also same = ⊎_elim of_none of_some (empty_or_some one.shape) where
  nothing : (b : Box) → IsEmptyBox b → chunks_in b ≡ []
  nothing b empty = ap (map (counted_from b.start)) (none_below b.shape empty)

  of_some : (¬ IsEmptyBox one) → chunks_in one ≡ chunks_in other
  of_some some = ap chunks_in (same_box_of one other one.start (first_within one.start one.shape is_box.lengths some) same)

  of_none : IsEmptyBox one → chunks_in one ≡ chunks_in other
  of_none empty =
      nothing one empty
      ∙ sym (⊎_elim (nothing other)
      (λ some.
      absurd (not_empty_if_inside _ _ _ ((same other.start).1 (first_within other.start other.shape also.lengths some)) empty))
      (empty_or_some other.shape))
