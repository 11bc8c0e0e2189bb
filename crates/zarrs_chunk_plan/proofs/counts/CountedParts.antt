-- The counts of a read are those of its parts.
use Rattle.zarrs_chunk_plan.proofs.Common.{◌≡◌, ◌↔◌, ◌∙◌, ℕ, List, Contains, Global, Vec, length}
use Rattle.zarrs_chunk_plan.proofs.Common.{ap, subst, sym, AllZip-long, Box, IsBox, IsInside, Dimension, chunks_in}
use Rattle.zarrs_chunk_plan.proofs.Common.{AreMany, product, HasElement, IsPart, IsPlan, Part}
use Rattle.zarrs_chunk_parts.specs.Plan.{Covers}
use Rattle.zarrs_chunk_plan.specs.Counts.{AreReadCounts}
use Rattle.zarrs_chunk_plan.proofs.counts.BoxCounts.{box_many, in_box_many}
use Rattle.zarrs_chunk_plan.proofs.Plans.{chunk_of, has_common, some_part}
use Rattle.zarrs_chunk_plan.proofs.SameBoxes.{chunks_of_same}

-- these lists are the factors of the counts, of a box and its cover
module _ (b cover : Box) (chunks elements : Vec ℕ Global) (chunks_are : chunks.items ≡ cover.shape) (elements_are : elements.items ≡ b.shape) where
  pub of_plan : (ds : List Dimension) (IsKey : List ℕ → List ℕ → Type 0) → IsBox b → Covers ds b cover → (parts : List Part)
      → IsPlan ds IsKey b parts → AreReadCounts b parts (record { chunks_read = chunks; elements_moved = elements })
  of_plan ds IsKey is_box covers parts plan = record {
    chunks_read = ap product chunks_are ∙ many;
    elements_moved = subst
        (λ items. AreMany (λ index. (part : Part) × Contains parts part × ((place : List ℕ) × HasElement b part index place)) (product items))
        (sym elements_are)
        (box_many b _ is_box
        (λ index. (
          some_part plan index,
          λ (part, among, (place, has)). let (chunk, _, is) = chunk_of plan part among in (has_common is has).1,
        )));
  } where
    covered : (chunk : List ℕ) → IsInside plan.cover chunk ↔ IsInside cover chunk
    covered chunk =
        let one = plan.is_cover.named chunk in
        let other = covers.named chunk in
        (λ h. other.1 (one.0 h), λ h. one.1 (other.0 h))

    many : product cover.shape ≡ length parts
    many =
        sym (in_box_many cover) ∙ ap length (sym (chunks_of_same plan.cover cover plan.is_cover.is_box covers.is_box covered))
        ∙ sym (AllZip-long (IsPart ds IsKey b) (chunks_in plan.cover) parts plan.are_parts)
