-- The whole array, which a rechunking copies to where it is.
use Rattle.zarrs_chunk_plan.proofs.Common.{◌≡◌, ◌↔◌, ◌∙◌, ℕ, zero, suc, ◌+◌, List, [], ◌∷◌, length, map, replicate, refl, ap, ap₂, subst}
use Rattle.zarrs_chunk_plan.proofs.Common.{arith, AllByRecursion, AreWithin, Box}
use Rattle.zarrs_chunk_plan.proofs.Common.{IsInside, Dimension, Holds, IsChain, array_sizes, within_lengths, length_values, AreBelow}
use Rattle.zarrs_chunk_plan.proofs.Common.{counted_from, same_box, counted_home, IsCommon, Meets}
use Rattle.zarrs_chunk_plan.proofs.Common.{all_chunks_box, array_box}
use Rattle.zarrs_chunk_parts.specs.Plan.{AreShared}

-- ---- the whole array

-- what is counted from 0 is as it was
pub counted_from_zeros : (n : ℕ) (xs : List ℕ) → length xs ≡ n → counted_from (replicate n 0) xs ≡ xs
counted_from_zeros zero [] same = refl
counted_from_zeros (suc n) (x ∷ xs) same = let here : 0 + x ≡ x = omega arith in ap₂ (λ y rest. y ∷ rest) here (counted_from_zeros n xs (omega arith))
counted_from_zeros _ _ same = absurd (omega arith)

-- what is below sizes lies in the box of them that begins at 0, and the other way round
pub from_zero : (f : Dimension → ℕ) (ds : List Dimension) (index : List ℕ)
    → AreBelow (map f ds) index ↔ AreWithin (replicate (length ds) 0) (map f ds) index
from_zero f [] [] = (λ _. tt, λ _. tt)
from_zero f (d ∷ ds) (i ∷ index) =
    let rest = from_zero f ds index in (
      λ below. let here = below.0 in (omega arith, omega arith, rest.0 below.1),
      λ within. let here = within.1 in (omega arith, rest.1 within.2),
    )
from_zero f _ _ = (λ h. absurd h, λ h. absurd h)

-- an index below the array shape is one of the array
pub in_array : (ds : List Dimension) (index : List ℕ) → AreBelow (array_sizes ds) index ↔ IsInside (array_box ds) index
in_array = from_zero (λ d. d.array_size)

-- a chunk that holds an element of the array is counted
pub is_counted : (ds : List Dimension) → AllByRecursion IsChain ds → (chunk : List ℕ) → Meets ds (array_box ds) chunk
    → IsInside (all_chunks_box ds) chunk
is_counted ds chains chunk (index, box, inside) =
    let (home, counted, also) = counted_home ds index chains ((in_array ds index).1 inside) in
    subst (IsInside (all_chunks_box ds)) (same_box ds home chunk index chains also box) ((from_zero (λ d. d.grid_size) ds home).0 counted)

-- ---- a chunk of the target

-- what is found of a chunk and the whole array is what they share
module _ (ds : List Dimension) (chunk : List ℕ) (in_chunk in_selection : Box) (boxes : AreShared ds (array_box ds) chunk in_chunk in_selection)
    (meets : Meets ds (array_box ds) chunk) where
  found_start : boxes.shared.start ≡ in_selection.start
  found_start =
      let (index, box, inside) = meets in
      let many = length_values Holds ds chunk index box in
      let long = within_lengths _ _ index ((boxes.elements index).1 (box, inside)) in
      let shapes = ap length boxes.from_subset.shape in
      boxes.from_subset.start
      ∙ counted_from_zeros (length ds) in_selection.start (omega (arith, boxes.is_box.lengths, boxes.from_subset.is_box.lengths))

  pub found_are : (index : List ℕ) → IsInside in_selection index ↔ IsCommon ds (array_box ds) chunk index
  found_are index = rw (found_start, boxes.from_subset.shape) at (boxes.elements index)
