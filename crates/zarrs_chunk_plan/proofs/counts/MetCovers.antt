-- The elements of no chunks.
use Rattle.zarrs_chunk_plan.proofs.Common.{◌≡◌, ◌≢◌, ◌↔◌, ℕ, zero, suc, List, length, refl, arith}
use Rattle.zarrs_chunk_plan.proofs.Common.{Box, IsBox, IsEmptyBox, IsInside, zero_box, Dimension, InBox, array_sizes}
use Rattle.zarrs_chunk_plan.proofs.Common.{AreBelow}
use Rattle.zarrs_chunk_plan.proofs.Plans.{none_below, not_empty_if_inside}

-- some ranges from 0 to 0 hold nothing
pub zeros_none : (n : ℕ) → n ≢ 0 → IsEmptyBox (zero_box n)
zeros_none zero some = absurd (some refl)
zeros_none (suc n) some = (0, omega arith, refl)

-- ---- no chunks

module _ (ds : List Dimension) (chunks : Box) (is_box : IsBox chunks) (long : length chunks.start ≡ length ds) (empty : IsEmptyBox chunks) where
  pub some_dimensions : length ds ≢ 0
  some_dimensions none = let (k, within, is) = empty in absurd (omega (arith, is_box.lengths))

  pub none_held : (index : List ℕ)
      → IsInside (zero_box (length ds)) index
      ↔ (AreBelow (array_sizes ds) index × ((chunk : List ℕ) × IsInside chunks chunk × InBox ds chunk index))
  none_held index = (
    λ inside. absurd (none_below (length ds) some_dimensions index inside),
    λ (_, (chunk, inside, _)). absurd (not_empty_if_inside chunks.start chunks.shape chunk inside empty),
  )

  pub zeros_empty : IsEmptyBox (zero_box (length ds))
  zeros_empty = zeros_none (length ds) some_dimensions
