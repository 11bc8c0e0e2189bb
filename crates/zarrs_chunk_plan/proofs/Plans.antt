-- The parts of a plan: which elements they have, and that they differ.
use Rattle.zarrs_chunk_plan.proofs.Common.{◌≡◌, ◌≢◌, ◌↔◌, ◌⊎◌, ◌∙◌, ℕ, zero, suc, ◌+◌, ◌<◌, List, [], ◌∷◌, Contains, get_or, length, refl, ap}
use Rattle.zarrs_chunk_plan.proofs.Common.{None, Ok, Option, Result}
use Rattle.zarrs_chunk_plan.proofs.Common.{ap₂, subst, sym, inl, inr, ⊎_elim, arith, AllZip-long, AllByRecursion, AllPairs, AllZip}
use Rattle.zarrs_chunk_plan.proofs.Common.{AreWithin, Box, IsBox, IsEmptyBox, IsInside, zero_box, Dimension, Holds, InBox, IsChain, IsPlace, AllFit}
use Rattle.zarrs_chunk_plan.proofs.Common.{within_lengths, length_values, AreBelow, row_major, IsCover, chunks_in, counted_from, same_box}
use Rattle.zarrs_chunk_plan.proofs.Common.{are_those_inside, chunks_once, inside_fits, length_below, lie_within, offset_of, cover_meets, HasElement}
use Rattle.zarrs_chunk_plan.proofs.Common.{IsCommon, IsPart, IsPlan, Meets, Part}
use Rattle.zarrs_chunk_base.specs.Dimension.{IsOrigin}
use Rattle.zarrs_chunk_base.proofs.Boxes.{zero_is_box}
use Rattle.zarrs_chunk_base.proofs.FirstMembers.{contained}
use Rattle.zarrs_chunks.proofs.Covers.{none_is_not_empty}
use Rattle.zarrs_chunks.proofs.Meeting.{cover_holds}
use Rattle.zarrs_chunk_base.specs.ArraySubset.{lasts}
use Rattle.zarrs_chunk_base.specs.declared.incompatible_dimensionality_error.IncompatibleDimensionalityError.{IncompatibleDimensionalityError}
use Rattle.zarrs_chunk_base.specs.declared.refusal.Refusal.{Refusal}
use Rattle.zarrs_chunks.specs.Subsets.{HasNoHome}
use Rattle.zarrs_chunk_parts.specs.Plan.{Covers}
use Rattle.zarrs_chunk_plan.specs.seen.Parts.{FindsCovered, FindsSome}

-- ---- the chunks of a plan

pub empty_or_some : (shape : List ℕ) → Contains shape 0 ⊎ (¬ Contains shape 0)
empty_or_some [] = inr (λ (k, within, is). absurd (omega arith))
empty_or_some (zero ∷ shape) = inl (zero, omega arith, refl)
empty_or_some (suc n ∷ shape) =
    ⊎_elim (λ (k, within, is). inl (suc k, omega arith, is))
    (λ some. inr (λ has. ⊎_elim (λ (is : suc n ≡ 0). absurd (omega arith)) some (contained (suc n) shape 0 has))) (empty_or_some shape)

-- the box of ranges from 0 to 0 has no chunks
pub none_in_zeros : (n : ℕ) → n ≢ 0 → chunks_in (zero_box n) ≡ []
unfolding row_major
none_in_zeros zero some = absurd (some refl)
none_in_zeros (suc n) some = refl

module _ {X : Type 0} where
  pub all_of_each : (P : X → Type 0) (xs : List X) → ((x : X) → Contains xs x → P x) → AllByRecursion P xs
  all_of_each P [] each = tt
  all_of_each P (x ∷ xs) each = (each x (zero, omega arith, refl), all_of_each P xs (λ y (k, within, is). each y (suc k, omega arith, is)))

pub none_below : (n : ℕ) → n ≢ 0 → (chunk : List ℕ) → ¬ IsInside (zero_box n) chunk
none_below zero some chunk inside = some refl
none_below (suc n) some (c ∷ chunk) inside = let below = inside.1 in absurd (omega arith)
none_below (suc n) some [] inside = inside

-- a list that has something below it in each place has no 0
pub not_empty_if_inside : (start shape index : List ℕ) → AreWithin start shape index → ¬ Contains shape 0
not_empty_if_inside [] [] [] within (k, counted, is) = absurd (omega arith)
not_empty_if_inside (s ∷ start) (n ∷ shape) (i ∷ index) within (zero, counted, is) =
    absurd (omega arith)
not_empty_if_inside (s ∷ start) (n ∷ shape) (i ∷ index) within (suc k, counted, is) =
    not_empty_if_inside start shape index within.2 (k, omega arith, is)
not_empty_if_inside _ _ _ within h = absurd within

-- each chunk of a cover holds some element of the box
pub meet_each : {ds : List Dimension} {b cover : Box} → Covers ds b cover → AllByRecursion (Meets ds b) (chunks_in cover)
meet_each {ds} {b} {cover} covers =
    all_of_each (Meets ds b) (chunks_in cover) (λ chunk has. (covers.named chunk).0 ((are_those_inside cover covers.is_box chunk).0 has))

pub covers_some : (ds : List Dimension) (b cover : Box) → AllByRecursion IsChain ds → IsBox b → (¬ IsEmptyBox b) → IsCover ds b cover
    → Covers ds b cover
covers_some ds b cover chains is_box some is = record {
  is_box = is.is_box;
  named = cover_meets ds b cover chains is_box some is;
  homes = λ index inside. let (chunk, _, box) = cover_holds ds b cover chains is_box is index inside in (chunk, box);
}

pub covers_none : (ds : List Dimension) (b : Box) (n : ℕ) → n ≢ 0 → IsEmptyBox b → Covers ds b (zero_box n)
covers_none ds b n some empty = record {
  is_box = zero_is_box n;
  named = λ chunk. (
    λ inside. absurd (none_below n some chunk inside),
    λ (index, _, inside). absurd (not_empty_if_inside b.start b.shape index inside empty),
  );
  homes = λ index inside. absurd (not_empty_if_inside b.start b.shape index inside empty);
}

-- what is found of any box covers it
pub covers_any : (ds : List Dimension) (b cover : Box) → AllByRecursion IsChain ds → IsBox b
    → (IsEmptyBox b → length ds ≢ 0 → cover ≡ zero_box (length ds))
    → ((¬ IsEmptyBox b) ⊎ (length ds ≡ 0) → (length b.start ≡ length ds) × IsCover ds b cover) → Covers ds b cover
covers_any [] b cover chains is_box if_empty if_some =
    let (same, is) = if_some (inr refl) in covers_some [] b cover chains is_box (none_is_not_empty b is_box same) is
covers_any (d ∷ ds) b cover chains is_box if_empty if_some =
    let some : length (d ∷ ds) ≢ 0 = λ none. absurd (omega arith) in
    ⊎_elim (λ empty. subst (Covers (d ∷ ds) b) (sym (if_empty empty some)) (covers_none (d ∷ ds) b (length (d ∷ ds)) some empty))
    (λ filled. covers_some (d ∷ ds) b cover chains is_box filled (if_some (inl filled)).1) (empty_or_some b.shape)

-- what isn't found as of an empty box is about one that isn't empty, or a grid without dimensions
pub full_or_narrow : (ds : List Dimension) (b : Box) → (IsEmptyBox b → ¬ (length ds ≢ 0)) → (¬ IsEmptyBox b) ⊎ (length ds ≡ 0)
full_or_narrow [] b never = inr refl
full_or_narrow (d ∷ ds) b never = ⊎_elim (λ empty. absurd (never empty (λ none. absurd (omega arith)))) inl (empty_or_some b.shape)

-- a box of which nothing is found isn't empty, and its first or its last element lies in no chunk
pub none_found : {X : Type 0} (ds : List Dimension) (b : Box) (answer : Result (Option X) (Refusal IncompatibleDimensionalityError)) → answer ≡ Ok None
    → IsBox b → (IsEmptyBox b → length ds ≢ 0 → FindsSome answer) → ((¬ IsEmptyBox b) ⊎ (length ds ≡ 0) → FindsCovered ds b answer)
    → (¬ IsEmptyBox b) × (length b.start ≡ length ds) × (HasNoHome ds b.start ⊎ HasNoHome ds (lasts b.start b.shape))
none_found ds b answer none is_box of_empty of_full =
    let which = full_or_narrow ds b (λ empty wide. subst FindsSome none (of_empty empty wide)) in
    let (same, homeless) = subst (FindsCovered ds b) none (of_full which) in
    (⊎_elim (λ full. full) (λ narrow. none_is_not_empty b is_box (same ∙ narrow)) which, same, homeless)

-- ---- numbers counted from starts

pub added : (a b c : List ℕ) → counted_from a (counted_from b c) ≡ counted_from (counted_from a b) c
added (x ∷ a) (y ∷ b) (z ∷ c) = let here : x + (y + z) ≡ (x + y) + z = omega arith in ap₂ (λ n ns. n ∷ ns) here (added a b c)
added _ _ _ = refl

pub counted_once : (start one other : List ℕ) → length one ≡ length start → length other ≡ length start
    → counted_from start one ≡ counted_from start other → one ≡ other
counted_once [] [] [] a b same = refl
counted_once (s ∷ start) (m ∷ one) (n ∷ other) a b same =
    let here : s + m ≡ s + n = cc in
    let rest : counted_from start one ≡ counted_from start other = cc in
    let first : m ≡ n = omega arith in
    ap₂ (λ x xs. x ∷ xs) first (counted_once start one other (omega arith) (omega arith) rest)
counted_once _ _ _ a b same = absurd (omega arith)

pub length_counted : (start numbers : List ℕ) → length numbers ≡ length start → length (counted_from start numbers) ≡ length start
length_counted [] [] same = refl
length_counted (s ∷ start) (n ∷ numbers) same = ap suc (length_counted start numbers (omega arith))
length_counted _ _ same = absurd (omega arith)

-- a place is what is counted from the chunk's origin
pub place_from_origin : (ds : List Dimension) (chunk origin place : List ℕ) → IsOrigin ds chunk origin → length place ≡ length ds
    → IsPlace ds chunk (counted_from origin place) place
place_from_origin [] [] [] [] is same = tt
place_from_origin (d ∷ ds) (c ∷ chunk) (o ∷ origin) (p ∷ place) is same =
    (omega arith, place_from_origin ds chunk origin place is.1 (omega arith))
place_from_origin _ _ _ _ is same = absurd (first_of (assumption, omega arith))

-- a box that has something in it has as many sizes as starts
pub within_sizes : (start shape index : List ℕ) → AreWithin start shape index → length shape ≡ length start
within_sizes [] [] [] within = refl
within_sizes (s ∷ start) (n ∷ shape) (i ∷ index) within = ap suc (within_sizes start shape index within.2)
within_sizes _ _ _ within = absurd within

-- ---- one part

module _ {ds : List Dimension} {IsKey : List ℕ → List ℕ → Type 0} {b : Box} {chunk : List ℕ} {part : Part} (is : IsPart ds IsKey b chunk part) where
  -- it has each element that chunk and box share
  pub takes : (index : List ℕ) → IsCommon ds b chunk index → (place : List ℕ) × HasElement b part index place
  takes index common =
      let boxes = is.boxes in
      let (steps, below, counts) = offset_of boxes.shared.start boxes.shared.shape index ((boxes.elements index).1 common) in (
        counted_from part.in_chunk.start steps,
        record {
          steps = steps;
          below = subst (λ shape. AreBelow shape steps) boxes.from_chunk.shape below;
          place_is = refl;
          index_is = sym counts ∙ ap (λ start. counted_from start steps) boxes.from_subset.start ∙ sym (added b.start part.in_selection.start steps);
        },
      )

  -- and no other
  pub has_common : {index place : List ℕ} → HasElement b part index place → IsCommon ds b chunk index
  has_common {index} has =
      let boxes = is.boxes in
      let shared = boxes.shared in
      let below : AreBelow shared.shape has.steps = subst (λ shape. AreBelow shape has.steps) (sym boxes.from_chunk.shape) has.below in
      let counts : counted_from shared.start has.steps ≡ index =
      ap (λ start. counted_from start has.steps) boxes.from_subset.start ∙ sym (added b.start part.in_selection.start has.steps) ∙ sym has.index_is
      in
      (boxes.elements index).0
      (subst (AreWithin shared.start shared.shape) counts (lie_within shared.start shared.shape has.steps boxes.is_box.lengths below))

  -- each of its lists of numbers is as long as there are dimensions
  pub all_long : (index : List ℕ) → IsCommon ds b chunk index
      → (length index ≡ length ds) × (length b.start ≡ length ds) × (length part.in_chunk.start ≡ length ds)
      × (length part.in_chunk.shape ≡ length ds) × (length part.in_selection.start ≡ length ds)
  all_long index common =
      let boxes = is.boxes in
      let in_chunk = ap length boxes.from_chunk.shape in
      let in_selection = ap length boxes.from_subset.shape in
      let in_shared : length index ≡ length boxes.shared.start = within_lengths _ _ _ ((boxes.elements index).1 common) in
      let in_box : length index ≡ length b.start = within_lengths _ _ _ common.1 in
      let many : length index ≡ length ds = length_values Holds ds chunk index common.0 in
      (many, omega arith, omega arith, omega arith, omega arith)

  -- an element is at its place in the chunk
  pub has_place : {index place : List ℕ} → HasElement b part index place → InBox ds chunk index × IsPlace ds chunk index place
  has_place {index} {place} has =
      let boxes = is.boxes in
      let common = has_common has in
      let from_origin : index ≡ counted_from boxes.origin place =
      has.index_is ∙ added b.start part.in_selection.start has.steps
      ∙ ap (λ start. counted_from start has.steps) (sym boxes.from_subset.start ∙ boxes.from_chunk.start)
      ∙ sym (added boxes.origin part.in_chunk.start has.steps) ∙ ap (counted_from boxes.origin) (sym has.place_is)
      in
      let long = all_long index common in
      let steps_many = length_below part.in_chunk.shape has.steps has.below in
      let place_many = ap length has.place_is ∙ length_counted part.in_chunk.start has.steps (omega arith) in
      (common.0, rw from_origin (place_from_origin ds chunk boxes.origin place boxes.is_origin (omega arith)))

  -- it isn't empty, where the chunk has an element of the box
  pub not_empty : Meets ds b chunk → ¬ IsEmptyBox part.in_selection
  not_empty (index, box, inside) =
      subst (λ shape. ¬ Contains shape 0) is.boxes.from_subset.shape (not_empty_if_inside _ _ index ((is.boxes.elements index).1 (box, inside)))

  -- what lies in its box is an element that it has
  has_at : (place : List ℕ) → IsInside part.in_selection place → (at : List ℕ) × HasElement b part (counted_from b.start place) at
  has_at place inside =
      let boxes = is.boxes in
      let (steps, below, counts) = offset_of part.in_selection.start part.in_selection.shape place inside in (
        counted_from part.in_chunk.start steps,
        record {
          steps = steps;
          below = subst (λ shape. AreBelow shape steps) (sym boxes.from_subset.shape ∙ boxes.from_chunk.shape) below;
          place_is = refl;
          index_is = ap (counted_from b.start) (sym counts);
        },
      )

  -- and so it lies in the box that is read, counted from its first element
  pub place_below : (place : List ℕ) → IsInside part.in_selection place → AreBelow b.shape place
  place_below place inside =
      let index = counted_from b.start place in
      let common = has_common (has_at place inside).1 in
      let long = all_long index common in
      let in_part = within_lengths part.in_selection.start part.in_selection.shape place inside in
      let sizes = within_sizes b.start b.shape index common.1 in
      let (steps, below, counts) = offset_of b.start b.shape index common.1 in
      let steps_many = length_below b.shape steps below ∙ sizes in
      let same : steps ≡ place = counted_once b.start steps place steps_many (omega arith) counts in
      subst (AreBelow b.shape) same below

-- ---- parts and chunks, place by place

module _ {X Y : Type 0} (R : X → Y → Type 0) where
  at_place : (xs : List X) (ys : List Y) → AllZip R xs ys → (k : ℕ) → k < length ys
      → (x : X) × (y : Y) × (k < length xs) × ((e : X) → get_or xs k e ≡ x) × ((d : Y) → get_or ys k d ≡ y) × R x y
  at_place (x ∷ xs) (y ∷ ys) zipped zero within = (x, y, omega arith, λ e. refl, λ d. refl, zipped.0)
  at_place (x ∷ xs) (y ∷ ys) zipped (suc k) within =
      let (z, w, counted, is, is_other, related) = at_place xs ys zipped.1 k (omega arith) in
      (z, w, omega arith, is, is_other, related)
  at_place xs [] zipped k within = absurd (omega arith)
  at_place [] (_ ∷ _) zipped k within = absurd zipped

  pub pair_of : (xs : List X) (ys : List Y) → AllZip R xs ys → (x : X) → Contains xs x → (y : Y) × Contains ys y × R x y
  pair_of xs ys zipped x (k, within, is) =
      let long = AllZip-long R xs ys zipped in
      let (z, y, counted, at, is_other, related) = at_place xs ys zipped k (omega arith) in
      (y, (k, omega arith, is_other y), subst (λ w. R w y) (sym (at x) ∙ is) related)

  pub source_of : (xs : List X) (ys : List Y) → AllZip R xs ys → (y : Y) → Contains ys y → (x : X) × Contains xs x × R x y
  source_of xs ys zipped y (k, within, is) =
      let (x, z, counted, at, is_other, related) = at_place xs ys zipped k within in
      (x, (k, counted, at x), subst (R x) (sym (is_other y) ∙ is) related)

  -- what follows for two of these from what holds of each two of those that they are related to
  pub pairs_by : (P : X → X → Type 0) (Q : Y → Y → Type 0) (xs : List X) (ys : List Y) → AllZip R xs ys → AllPairs P xs
      → ((one other : X) (y z : Y) → Contains xs one → Contains xs other → P one other → R one y → R other z → Q y z) → AllPairs Q ys
  pairs_by P Q xs ys zipped each follows i j d before within =
      let (one, y, counted, is, made, related) = at_place xs ys zipped i (omega arith) in
      let (other, z, also, is_other, made_other, also_related) = at_place xs ys zipped j within in
      rw (made d, made_other d)
      (follows one other y z (i, counted, is one) (j, also, is_other other)
      (rw (is one, is_other one) at (each i j one before also)) related also_related)

  -- what holds of two parts of chunks that differ holds of each two parts
  pub pairs_of : (Q : Y → Y → Type 0) (xs : List X) (ys : List Y) → AllZip R xs ys → AllPairs (λ one other. one ≢ other) xs
      → ((one other : X) (y z : Y) → Contains xs one → Contains xs other → one ≢ other → R one y → R other z → Q y z) → AllPairs Q ys
  pairs_of = pairs_by (λ one other. one ≢ other)

-- ---- the plan

-- chunks of one cover that have one key are one
pub one_chunk : {ds : List Dimension} {IsKey : List ℕ → List ℕ → Type 0} {b : Box}
    → ((chunk other key : List ℕ) → AllFit chunk → AllFit other → length chunk ≡ length other → IsKey chunk key → IsKey other key → chunk ≡ other)
    → (cover : Box) → IsBox cover → (one other : List ℕ) (part next : Part) → Contains (chunks_in cover) one → Contains (chunks_in cover) other
    → IsPart ds IsKey b one part → IsPart ds IsKey b other next → part.key ≡ next.key → one ≡ other
one_chunk {ds} {IsKey} exact cover is_box one other part next among also is is_other same =
    let inside = (are_those_inside cover is_box one).0 among in
    let other_inside = (are_those_inside cover is_box other).0 also in
    exact one other part.key (inside_fits cover.start cover.shape one is_box.fits inside)
    (inside_fits cover.start cover.shape other is_box.fits other_inside)
    (within_lengths _ _ _ inside ∙ sym (within_lengths _ _ _ other_inside)) is.key (subst (IsKey other) (sym same) is_other.key)

module _ {ds : List Dimension} {IsKey : List ℕ → List ℕ → Type 0} {b : Box} {parts : List Part} (plan : IsPlan ds IsKey b parts) where
  -- each part is that of a chunk of the cover
  pub chunk_of : (part : Part) → Contains parts part → (chunk : List ℕ) × Contains (chunks_in plan.cover) chunk × IsPart ds IsKey b chunk part
  chunk_of = source_of (IsPart ds IsKey b) (chunks_in plan.cover) parts plan.are_parts

  -- and each chunk of the cover has one
  pub part_of : (chunk : List ℕ) → IsInside plan.cover chunk → (part : Part) × Contains parts part × IsPart ds IsKey b chunk part
  part_of chunk inside =
      pair_of (IsPart ds IsKey b) (chunks_in plan.cover) parts plan.are_parts chunk
      ((are_those_inside plan.cover plan.is_cover.is_box chunk).1 inside)

  -- what holds of the parts of each two chunks that differ holds of each two parts
  each_two : (Q : Part → Part → Type 0)
      → ((one other : List ℕ) (part next : Part) → Contains (chunks_in plan.cover) one → Contains (chunks_in plan.cover) other → one ≢ other
      → IsPart ds IsKey b one part → IsPart ds IsKey b other next → Q part next) → AllPairs Q parts
  each_two Q = pairs_of (IsPart ds IsKey b) Q (chunks_in plan.cover) parts plan.are_parts (chunks_once plan.cover plan.is_cover.is_box)

  -- each element of the box lies in some part
  pub some_part : (index : List ℕ) → IsInside b index
      → (part : Part) × Contains parts part × ((place : List ℕ) × HasElement b part index place)
  some_part index inside =
      let (chunk, box) = plan.is_cover.homes index inside in
      let (part, among, is) = part_of chunk ((plan.is_cover.named chunk).1 (index, box, inside)) in
      (part, among, takes is index (box, inside))

  -- and in no other
  pub no_other_part : AllByRecursion IsChain ds
      → AllPairs (λ part other. (index place also : List ℕ) → HasElement b part index place → HasElement b other index also → ⊥) parts
  no_other_part chains =
      each_two (λ part other. (index place also : List ℕ) → HasElement b part index place → HasElement b other index also → ⊥)
      (λ one other part next _ _ differ is is_other index place also has has_other.
      differ (same_box ds one other index chains (has_common is has).0 (has_common is_other has_other).0))

  pub keys_differ :
      ((chunk other key : List ℕ) → AllFit chunk → AllFit other → length chunk ≡ length other → IsKey chunk key → IsKey other key → chunk ≡ other)
      → AllPairs (λ part other. part.key ≢ other.key) parts
  keys_differ exact =
      each_two (λ part other. part.key ≢ other.key)
      (λ one other part next among also differ is is_other same.
      differ (one_chunk exact plan.cover plan.is_cover.is_box one other part next among also is is_other same))

  pub tiles_all : length b.start ≡ length b.shape → (place : List ℕ)
      → AreBelow b.shape place ↔ ((part : Part) × Contains parts part × IsInside part.in_selection place)
  tiles_all lengths place = (find, λ (part, among, inside). let (_, _, is) = chunk_of part among in place_below is place inside) where
    find : AreBelow b.shape place → (part : Part) × Contains parts part × IsInside part.in_selection place
    find below =
        let index = counted_from b.start place in
        let (part, among, (at, has)) = some_part index (lie_within b.start b.shape place lengths below) in
        let (chunk, _, is) = chunk_of part among in
        let boxes = is.boxes in
        let long = all_long is index (has_common is has) in
        let steps_many = length_below part.in_chunk.shape has.steps has.below in
        let place_many = length_below b.shape place below ∙ sym lengths in
        let counted = counted_from part.in_selection.start has.steps in
        let counted_many = length_counted part.in_selection.start has.steps (omega arith) in
        let same : place ≡ counted = counted_once b.start place counted place_many (omega arith) has.index_is in
        let below_part = subst (λ shape. AreBelow shape has.steps) (sym boxes.from_chunk.shape ∙ boxes.from_subset.shape) has.below in
        let lies = lie_within part.in_selection.start part.in_selection.shape has.steps boxes.from_subset.is_box.lengths below_part in
        (part, among, subst (AreWithin part.in_selection.start part.in_selection.shape) (sym same) lies)

  pub tiles_apart : AllByRecursion IsChain ds
      → AllPairs (λ part other. (place : List ℕ) → IsInside part.in_selection place → IsInside other.in_selection place → ⊥) parts
  tiles_apart chains =
      each_two (λ part other. (place : List ℕ) → IsInside part.in_selection place → IsInside other.in_selection place → ⊥)
      (λ one other part next _ _ differ is is_other place inside also.
      differ (same_box _ _ _ _ chains (has_common is (has_at is place inside).1).0 (has_common is_other (has_at is_other place also).1).0))

  -- no part is empty
  pub none_empty : (part : Part) → Contains parts part → ¬ IsEmptyBox part.in_selection
  none_empty part among =
      let (chunk, has, is) = chunk_of part among in
      not_empty is ((plan.is_cover.named chunk).0 ((are_those_inside plan.cover plan.is_cover.is_box chunk).0 has))
