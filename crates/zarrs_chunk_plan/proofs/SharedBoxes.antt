-- What a chunk and a box of elements are found to share is what the chunk holds of the box.
use Rattle.zarrs_chunk_plan.proofs.Common.{◌≡◌, ℕ, List, length, ap, sym, ◌∙◌, arith, Box, Dimension, Holds, Meets, counted_from, length_values, within_lengths}
use Rattle.zarrs_chunk_parts.specs.Plan.{AreShared}
use Rattle.zarrs_chunk_plan.specs.seen.Sources.{taken_box, taken_sizes, taken_starts}
use Rattle.zarrs_chunk_plan.proofs.SameBoxes.{same_box_of}
use Rattle.zarrs_chunk_plan.proofs.TakenBoxes.{meets_take, taken_common}

module _ (ds : List Dimension) (b : Box) (chunk : List ℕ) (meets : Meets ds b chunk) where
  module _ (in_chunk in_selection : Box) (boxes : AreShared ds b chunk in_chunk in_selection) where
    -- what they share is what the chunk takes
    pub shared_is : boxes.shared ≡ taken_box ds b chunk
    shared_is =
        let some = meets_take ds b chunk meets in
        same_box_of boxes.shared (taken_box ds b chunk) meets.0 ((boxes.elements meets.0).1 (meets.1, meets.2))
        (λ x. (
          λ h. (taken_common ds b chunk some x).1 ((boxes.elements x).0 h),
          λ h. (boxes.elements x).1 ((taken_common ds b chunk some x).0 h),
        ))

    pub starts_are : counted_from b.start in_selection.start ≡ taken_starts ds b.start chunk
    starts_are = sym boxes.from_subset.start ∙ ap (λ (z : Box). z.start) shared_is

    pub sizes_are : in_selection.shape ≡ taken_sizes ds b.start b.shape chunk
    sizes_are = sym boxes.from_subset.shape ∙ ap (λ (z : Box). z.shape) shared_is

    pub as_many : length in_selection.start ≡ length ds
    as_many =
        let many = length_values Holds ds chunk meets.0 meets.1 in
        let long = within_lengths boxes.shared.start boxes.shared.shape meets.0 ((boxes.elements meets.0).1 (meets.1, meets.2)) in
        let shapes = ap length boxes.from_subset.shape in
        omega (arith, boxes.is_box.lengths, boxes.from_subset.is_box.lengths)
