-- What a box and the array have in common is the box clipped, and has a cover where it isn't empty.
use Rattle.zarrs_chunk_plan.proofs.Common.{◌≡◌, ◌↔◌, ◌∙◌, ℕ, zero, suc, List, [], ◌∷◌, ap₂, length, max, refl, replicate, arith, AllByRecursion, Box}
use Rattle.zarrs_chunk_plan.proofs.Common.{IsBox, IsEmptyBox, IsInside, ends, AllFit, Dimension, array_sizes, IsChain, IsCover, array_box}
use Rattle.zarrs_chunk_plan.specs.Clip.{IsClipped, sizes_below}
use Rattle.zarrs_chunk_parts.specs.seen.Shared.{later_starts, shared_sizes}
use Rattle.zarrs_chunk_plan.proofs.Rechunkings.{in_array}
use Rattle.zarrs_chunk_plan.proofs.SomePlan.{array_homes, has_cover}

-- no start lies before 0
later_than_zeros : (n : ℕ) (start : List ℕ) → length start ≡ n → later_starts (replicate n 0) start ≡ start
later_than_zeros zero [] same = refl
later_than_zeros (suc n) (s ∷ start) same =
    let here : max 0 s ≡ s = omega arith in
    ap₂ (λ x xs. x ∷ xs) here (later_than_zeros n start (omega arith))
later_than_zeros _ _ same = absurd (omega arith)

-- what a range shares with the array is what of it is below the size
shared_below : (ds : List Dimension) (start shape : List ℕ) → length start ≡ length ds → length shape ≡ length ds
    → AllFit (ends (array_box ds).start (array_sizes ds))
    → shared_sizes (array_box ds).start (array_sizes ds) start shape ≡ sizes_below (array_sizes ds) start shape
shared_below [] [] [] same also fit = refl
shared_below (d ∷ ds) (s ∷ start) (n ∷ shape) same also fit =
    ap₂ (λ x xs. x ∷ xs) (omega (arith, fit.0)) (shared_below ds start shape (omega arith) (omega arith) fit.1)
shared_below _ _ _ same also fit = absurd (omega arith)

module _ (ds : List Dimension) (b both : Box) where
  pub is_clipped : length b.start ≡ length ds → IsBox b → IsBox (array_box ds) → IsBox both → both.start ≡ later_starts (array_box ds).start b.start
      → both.shape ≡ shared_sizes (array_box ds).start (array_sizes ds) b.start b.shape
      → ((index : List ℕ) → IsInside both index ↔ (IsInside (array_box ds) index × IsInside b index)) → IsClipped ds b both
  is_clipped many is_b is_array is_box start shape common = record {
    is_box = is_box;
    start = start ∙ later_than_zeros (length ds) b.start many;
    shape = shape ∙ shared_below ds b.start b.shape many (omega (arith, is_b.lengths)) is_array.fits;
    elements = λ index. (
      λ inside. let lies = (common index).0 inside in (lies.1, (in_array ds index).1 lies.0),
      λ (inside, below). (common index).1 ((in_array ds index).0 below, inside),
    );
  }

  pub is_covered : AllByRecursion IsChain ds → IsClipped ds b both → (¬ IsEmptyBox both) → (cover : Box) × IsCover ds both cover
  is_covered chains is some =
      has_cover ds chains both is.is_box some (array_homes ds chains both (λ index inside. ((is.elements index).0 inside).1))
