-- Parts of a plan: how many are found at most, and how long their lists are.
use Rattle.std.proofs.Common.{◌≡◌, ◌∙◌, ℕ, ◌-◌, ◌≤◌, List, [], ◌∷◌, drop, length, min, take, ap}
use Rattle.std.proofs.Common.{arith}
use Rattle.std.proofs.lemmas.List.Elements.{All-drop, All-from_recursion, All-take, recursion_from_All}
use Rattle.std.specs.List.{AllByRecursion, AllZip}
use Rattle.zarrs_chunk_base.proofs.Boxes.{within_lengths}
use Rattle.zarrs_chunk_base.proofs.InEach.{length_numbers, length_values}
use Rattle.zarrs_chunk_base.specs.ArraySubset.{Box}
use Rattle.zarrs_chunk_base.specs.Dimension.{Dimension, Holds}
use Rattle.zarrs_chunks.specs.Walks.{chunks_in}
use Rattle.zarrs_chunk_plan.proofs.Plans.{meet_each}
use Rattle.zarrs_chunk_plan.specs.SomeParts.{AreSomeParts}
use Rattle.zarrs_chunk_parts.specs.Plan.{IsPart, Meets}
use Rattle.zarrs_chunk_parts.specs.declared.part.Part.{Part}
use Rattle.zarrs_chunk_plan.specs.declared.read.numbered_parts.SomeParts.{SomeParts}
use Rattle.zarrs_chunk_batches.proofs.Planned.{count_is}
use Rattle.zarrs_chunk_batches.specs.seen.Parts.{IsLongPart}

-- ---- lists

all_taken : {X : Type 0} (P : X → Type 0) (first count : ℕ) (xs : List X) → AllByRecursion P xs → AllByRecursion P (take count (drop first xs))
all_taken P first count xs all =
    recursion_from_All P (take count (drop first xs)) (All-take P count (drop first xs) (All-drop P first xs (All-from_recursion P xs all)))

all_zipped : {X Y : Type 0} (P : X → Type 0) (R : X → Y → Type 0) (Q : Y → Type 0) → ((x : X) (y : Y) → P x → R x y → Q y)
    → (xs : List X) (ys : List Y) → AllByRecursion P xs → AllZip R xs ys → AllByRecursion Q ys
all_zipped P R Q from [] [] all zipped = tt
all_zipped P R Q from (x ∷ xs) (y ∷ ys) all zipped = (from x y all.0 zipped.0, all_zipped P R Q from xs ys all.1 zipped.1)
all_zipped P R Q from [] (_ ∷ _) all zipped = absurd zipped
all_zipped P R Q from (_ ∷ _) [] all zipped = absurd zipped

-- ---- parts

module _ (ds : List Dimension) (IsKey : List ℕ → List ℕ → Type 0) (b : Box) where
  -- a part that has some element
  long_part : (chunk : List ℕ) (part : Part) → Meets ds b chunk → IsPart ds IsKey b chunk part → IsLongPart (length ds) part
  long_part chunk part (index, in_box, inside) is =
      let shared = is.boxes in
      let within = (shared.elements index).1 (in_box, inside) in
      let numbers : length part.chunk.items ≡ length ds = ap length is.numbers ∙ length_numbers Holds ds chunk index in_box in
      let of_index = length_values Holds ds chunk index in_box in
      let of_shared = within_lengths shared.shared.start shared.shared.shape index within in
      let same = shared.is_box.lengths in
      let chunk_shape : length shared.shared.shape ≡ length part.in_chunk.shape = ap length shared.from_chunk.shape in
      let chunk_start = shared.from_chunk.is_box.lengths in
      let subset_shape : length shared.shared.shape ≡ length part.in_selection.shape = ap length shared.from_subset.shape in
      let subset_start = shared.from_subset.is_box.lengths in
      record { chunk = numbers; in_chunk = omega arith; in_selection = omega arith; shape = omega arith }

  module _ (first most : ℕ) where
    pub few_parts : (some : SomeParts) → AreSomeParts ds IsKey b first most some.in_all some.parts.items → length some.parts.items ≤ most
    few_parts some are = let is = count_is ds IsKey b first most some are in omega arith

    pub long_parts : (some : SomeParts) → AreSomeParts ds IsKey b first most some.in_all some.parts.items
        → AllByRecursion (IsLongPart (length ds)) some.parts.items
    long_parts some are =
        let count = min (some.in_all - first) most in
        all_zipped (Meets ds b) (IsPart ds IsKey b) (IsLongPart (length ds)) long_part (take count (drop first (chunks_in are.cover))) some.parts.items
        (all_taken (Meets ds b) first count (chunks_in are.cover) (meet_each are.is_cover)) are.are_parts
