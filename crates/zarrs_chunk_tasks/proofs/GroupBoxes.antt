-- The groups that hold some of a box of elements, and what each holds of it.
use Rattle.std.proofs.Common.{◌≡◌, ◌≢◌, ◌↔◌, ◌∙◌, ℕ, zero, suc, ◌+◌, ◌-◌, ◌*◌, ◌/◌, ◌<◌, ◌≤◌, IsTrue, List, [], ◌∷◌, length, map, max, min, ap, ap₂, refl}
use Rattle.std.proofs.Common.{subst, ⊎_elim, arith}
use Rattle.std.proofs.lemmas.Bool.{cases_lt}
use Rattle.std.proofs.lemmas.List.{length-map}
use Rattle.std.specs.Int.NonZero.{non_zero_u64_get}
use Rattle.std.specs.List.{AllByRecursion, AllZip}
use Rattle.std.specs.declared.num.NonZeroU64.{NonZeroU64}
use Rattle.zarrs_chunk_base.specs.ArraySubset.{Box, IsBox, IsEmptyBox, IsInside, ends, lasts, zero_box}
use Rattle.zarrs_chunk_base.specs.Dimension.{Dimension, Holds, InBox, IsChain}
use Rattle.zarrs_chunk_base.specs.Greatest.{greatest}
use Rattle.zarrs_chunk_base.proofs.InEach.{length_numbers, length_values}
use Rattle.zarrs_chunks.proofs.Boxes.{has_origin}
use Rattle.zarrs_chunks.proofs.Chains.{apart, earlier_has, in_chain, no_later}
use Rattle.zarrs_chunks.proofs.ChunksInBoxes.{inside_fits}
use Rattle.zarrs_chunks.proofs.Covers.{chunks_small, firsts_before_lasts, in_order, is_cover, lasts_small}
use Rattle.zarrs_chunks.proofs.UpTo.{ones_fit}
use Rattle.zarrs_chunks.specs.Subsets.{IsCover}
use Rattle.zarrs_chunk_parts.specs.Plan.{AreShared, Meets}
use Rattle.zarrs_chunk_parts.proofs.Shares.{boxes_are, from_chunk, from_start}
use Rattle.zarrs_chunk_plan.specs.Region.{shifted}
use Rattle.zarrs_chunk_plan.specs.seen.Sources.{TakesSome, taken_box, taken_from}
use Rattle.zarrs_chunk_plan.proofs.Plans.{covers_some}
use Rattle.zarrs_chunk_plan.proofs.SharedBoxes.{sizes_are, starts_are}
use Rattle.zarrs_chunk_plan.proofs.SomePlan.{has_shape}
use Rattle.zarrs_chunk_tasks.specs.Groups.{HoldsSomeOf, InGroup, IsBuffer}
use Rattle.zarrs_chunk_tasks.specs.seen.GroupNumbers.{counts_to, groups_of}
use Rattle.zarrs_chunk_tasks.specs.seen.Grouped.{all_grouped, grouped}
use Rattle.zarrs_chunk_tasks.proofs.Grouped.{IsLast, all_chains, holds_its_chunks, in_group_is, last, last_in_group}

-- a number of chunks a group
abbrev pub numbers : List NonZeroU64 → List ℕ
numbers = map non_zero_u64_get

pub some_chunks : (each : List NonZeroU64) → AllByRecursion (λ k. 0 < k) (numbers each)
some_chunks [] = tt
some_chunks (k ∷ each) = (k.ok, some_chunks each)

-- the groups as chunks
abbrev pub groups : List Dimension → List NonZeroU64 → List Dimension
groups ds each = all_grouped ds (numbers each)

-- ---- one dimension

-- the first and the last chunk of a group that lie from one chunk to another
abbrev pub first_in : (k first t : ℕ) → ℕ
first_in k first t = max (t * k) first

abbrev pub last_in : (k last t : ℕ) → ℕ
last_in k last t = min (t * k + (k - 1)) last

-- What a group takes of a range, if it takes some, is what is from the start of its first chunk on, and before the end of its last one. Of the chunks
-- that hold the range both are.
pub record Reaches (d : Dimension) (k a n first last t : ℕ) : Type 0 where
  pub begins : t * k ≤ last
  pub order : first_in k first t ≤ last_in k last t
  pub first_takes : TakesSome d a n (first_in k first t)
  pub last_takes : TakesSome d a n (last_in k last t)
  pub in_order : taken_from d a (first_in k first t) ≤ taken_from d a (last_in k last t)
  pub start : taken_from (grouped d k) a t ≡ taken_from d a (first_in k first t)
  pub end : min ((grouped d k).end t) (a + n) ≡ min (d.end (last_in k last t)) (a + n)

module _ (d : Dimension) (k a n f l t : ℕ) (chain : IsChain d) (any : 0 < n) (low : Holds d f a) (high : Holds d l (a + (n - 1)))
    (takes : TakesSome (grouped d k) a n t) where
  is : IsLast d (k - 1) (t * k) (last d k t)
  is = last_in_group d k chain t takes.0

  begins : t * k ≤ l
  begins =
      ⊎_elim (λ (before : l < t * k). absurd (omega (arith, apart d chain l (t * k) before takes.0, takes.1, high.from, high.below)))
      (λ (le : t * k ≤ l). le) (cases_lt l (t * k))

  ended : f ≤ last d k t
  ended =
      ⊎_elim (λ (before : last d k t < f). absurd (omega (arith, apart d chain (last d k t) f before low.chunk, takes.1, low.from)))
      (λ (le : f ≤ last d k t). le) (cases_lt (last d k t) f)

  first_has : IsTrue (d.has_chunk (first_in k f t))
  first_has = earlier_has d chain (first_in k f t) l (omega (arith, begins, no_later d chain f l a (a + (n - 1)) (omega arith) low high)) high.chunk

  last_has : IsTrue (d.has_chunk (last_in k l t))
  last_has = earlier_has d chain (last_in k l t) l (omega arith) high.chunk

  last_up_to : last_in k l t ≤ last d k t
  last_up_to = is.no_later (last_in k l t) (omega arith) last_has

  ends_there : t * k + (k - 1) < l → last d k t ≡ t * k + (k - 1)
  ends_there later = omega (arith, is.up_to, last_up_to)

  -- what holds of the first chunk of the group, or of the one of the range
  at_first : (P : ℕ → Type 0) → (f ≤ t * k → P (t * k)) → (t * k < f → P f) → P (first_in k f t)
  at_first P one other =
      ⊎_elim (λ (later : t * k < f). let same : f ≡ first_in k f t = omega arith in subst P same (other later))
      (λ (le : f ≤ t * k). let same : t * k ≡ first_in k f t = omega arith in subst P same (one le)) (cases_lt (t * k) f)

  -- and of the last
  at_last : (P : ℕ → Type 0) → (l ≤ t * k + (k - 1) → P l) → (t * k + (k - 1) < l → P (t * k + (k - 1))) → P (last_in k l t)
  at_last P one other =
      ⊎_elim (λ (later : t * k + (k - 1) < l). let same : t * k + (k - 1) ≡ last_in k l t = omega arith in subst P same (other later))
      (λ (le : l ≤ t * k + (k - 1)). let same : l ≡ last_in k l t = omega arith in subst P same (one le)) (cases_lt (t * k + (k - 1)) l)

  abbrev Some : ℕ → Type 0
  Some m = max a (d.start m) < min (d.end m) (a + n)

  order : first_in k f t ≤ last_in k l t
  order = omega (arith, begins, ended, is.up_to, no_later d chain f l a (a + (n - 1)) (omega arith) low high)

  pub reaching : Reaches d k a n f l t
  reaching = record {
    begins = begins;
    order = order;
    in_order = omega (arith, (in_chain d chain (first_in k f t) (last_in k l t) order last_has).0);
    first_takes = (
      first_has,
      at_first Some
          (λ earlier. let (_, ends) = in_chain d chain f (t * k) earlier takes.0 in omega (arith, takes.1, low.below, chain.not_empty (t * k) takes.0))
          (λ later. omega (arith, low.from, low.below)),
    );
    last_takes = (
      last_has,
      at_last Some (λ up_to. omega (arith, high.from, high.below))
          (λ later.
          let end = ap d.end (ends_there later) in
          let has = earlier_has d chain (t * k + (k - 1)) l (omega arith) high.chunk in
          omega (arith, takes.1, high.from, apart d chain (t * k + (k - 1)) l later high.chunk, chain.not_empty (t * k + (k - 1)) has)),
    );
    start = at_first (λ m. max a (d.start (t * k)) ≡ max a (d.start m)) (λ earlier. refl)
        (λ later. omega (arith, low.from, (in_chain d chain (t * k) f (omega arith) low.chunk).0));
    end = at_last (λ m. min (d.end (last d k t)) (a + n) ≡ min (d.end m) (a + n))
        (λ up_to. omega (arith, high.below, (in_chain d chain l (last d k t) (reached up_to) is.has).1))
        (λ later. ap (λ m. min (d.end m) (a + n)) (ends_there later));
  } where
    reached : l ≤ t * k + (k - 1) → l ≤ last d k t
    reached up_to = omega (arith, up_to, last_up_to)

-- ---- each dimension

-- the lists have as many numbers as there are dimensions
pub record AsMany (ds : List Dimension) (each : List NonZeroU64) (start shape first last : List ℕ) : Type 0 where
  pub each_many : length each ≡ length ds
  pub start_many : length start ≡ length ds
  pub shape_many : length shape ≡ length ds
  pub first_many : length first ≡ length ds
  pub last_many : length last ≡ length ds

pub fewer : {d : Dimension} {ds : List Dimension} {k : NonZeroU64} {each : List NonZeroU64} {a n f l : ℕ} {start shape first last : List ℕ}
    → AsMany (d ∷ ds) (k ∷ each) (a ∷ start) (n ∷ shape) (f ∷ first) (l ∷ last) → AsMany ds each start shape first last
fewer long = record {
  each_many = omega (arith, long.each_many);
  start_many = omega (arith, long.start_many);
  shape_many = omega (arith, long.shape_many);
  first_many = omega (arith, long.first_many);
  last_many = omega (arith, long.last_many);
}

-- the first and the last element of a range lie in these chunks, in each dimension
abbrev pub AreOver : List Dimension → (start shape first last : List ℕ) → Type 0
AreOver ds start shape first last = InBox ds first start × InBox ds last (lasts start shape)

-- ---- boxes

-- so many ranges from 0 to 0 are empty, if there are some
pub zeros_empty : (n : ℕ) → n ≢ 0 → IsEmptyBox (zero_box n)
zeros_empty zero some = absurd (some refl)
zeros_empty (suc n) some = (0, omega arith, refl)

-- what a chunk and a box share, which hold some of each other
pub shares : (ds : List Dimension) (b : Box) (chunk : List ℕ) → IsBox b → Meets ds b chunk
    → (in_chunk in_selection : Box) × AreShared ds b chunk in_chunk in_selection
shares ds b chunk is_box meets =
    let (index, box, inside) = meets in
    let (origin, is, _) = has_origin ds chunk index box (inside_fits b.start b.shape index is_box.fits inside) in
    let (edges, long) = has_shape ds chunk index box in
    let (_, _, shared) = boxes_are ds b chunk origin edges is_box meets is long in
    (from_chunk origin edges b, from_start origin edges b, shared)

-- a group that holds an element has a number for each dimension
pub group_long : (ds : List Dimension) (each : List NonZeroU64) (group index : List ℕ) → InGroup ds (numbers each) group index → length each ≡ length ds
group_long [] [] [] [] lies = refl
group_long (d ∷ ds) (k ∷ each) (t ∷ group) (i ∷ index) lies = ap suc (group_long ds each group index lies.1)
group_long _ _ _ _ lies = absurd lies

-- a chunk that holds an index is one of a group that does
pub joins : (ds : List Dimension) (each : List NonZeroU64) (chunk index : List ℕ) → AllByRecursion IsChain ds → length each ≡ length ds → InBox ds chunk index
    → InBox (groups ds each) (groups_of each chunk) index
joins [] [] [] [] chains many box = tt
joins [] [] [] (_ ∷ _) chains many box = absurd box
joins [] [] (_ ∷ _) index chains many box = absurd box
joins (d ∷ ds) (k ∷ each) [] index chains many box = absurd box
joins (d ∷ ds) (k ∷ each) (c ∷ chunk) [] chains many box = absurd box
joins (d ∷ ds) (k ∷ each) (c ∷ chunk) (i ∷ index) chains many box =
    let size = non_zero_u64_get k in (
      (holds_its_chunks d size chains.0 k.ok (c / size) i).0 (record { chunk = c; holds = box.0; joined = refl }),
      joins ds each chunk index chains.1 (omega arith) box.1,
    )
joins _ _ _ _ chains many box = absurd (omega arith)

-- the numbers from one list to another end with the last ones
counts_reach : (first last : List ℕ) → AllZip ◌≤◌ first last → AllByRecursion (λ n. n < greatest) last
    → (length first ≡ length (counts_to first last)) × (ends first (counts_to first last) ≡ map (λ n. n + 1) last)
counts_reach [] [] order small = (refl, refl)
counts_reach (f ∷ first) (l ∷ last) order small =
    let (long, same) = counts_reach first last order.1 small.1 in
    let le : f ≤ l = order.0 in
    let less : l < greatest = small.0 in
    let here : f + min (l - f + 1) greatest ≡ l + 1 = omega arith in
    (omega arith, ap₂ (λ n ns. n ∷ ns) here same)
counts_reach _ _ order small = absurd order

-- so many groups from the one of the first chunk to the one of the last
abbrev pub groups_from : List NonZeroU64 → (cover : Box) → Box
groups_from each cover =
    let first = groups_of each cover.start in
    record { start = first; shape = counts_to first (groups_of each (lasts cover.start cover.shape)) }

module _ (ds : List Dimension) (each : List NonZeroU64) (chains : AllByRecursion IsChain ds) (many : length each ≡ length ds) where
  pub are_chains : AllByRecursion IsChain (groups ds each)
  are_chains = all_chains ds (numbers each) chains (some_chunks each)

  pub in_group : (group index : List ℕ) → InGroup ds (numbers each) group index ↔ InBox (groups ds each) group index
  in_group group index = in_group_is ds (numbers each) group index chains (some_chunks each) (length-map each non_zero_u64_get ∙ many)

  -- a group holds some of a box if it does so as a chunk
  pub meets_as_chunk : (b : Box) (group : List ℕ) → HoldsSomeOf ds (numbers each) b group ↔ Meets (groups ds each) b group
  meets_as_chunk b group = (
    λ (index, inside, lies). (index, (in_group group index).0 lies, inside),
    λ (index, box, inside). (index, inside, (in_group group index).1 box),
  )

  -- and what it holds of the box is what both share
  pub shared_is_buffer : (b : Box) (group : List ℕ) (in_chunk in_selection : Box) → AreShared (groups ds each) b group in_chunk in_selection
      → IsBuffer ds (numbers each) b group (shifted b.start in_selection)
  shared_is_buffer b group in_chunk in_selection boxes =
      rw (← boxes.from_subset.start, ← boxes.from_subset.shape) (record {
        is_box = boxes.is_box;
        elements = λ index. (
          λ within. let (box, inside) = (boxes.elements index).0 within in (inside, (in_group group index).1 box),
          λ (inside, lies). (boxes.elements index).1 ((in_group group index).0 lies, inside),
        );
      })

  pub taken_is_buffer : (b : Box) (group : List ℕ) → IsBox b → Meets (groups ds each) b group
      → IsBuffer ds (numbers each) b group (taken_box (groups ds each) b group)
  taken_is_buffer b group is_box meets =
      let (in_chunk, in_selection, boxes) = shares (groups ds each) b group is_box meets in
      rw (starts_are (groups ds each) b group meets in_chunk in_selection boxes, sizes_are (groups ds each) b group meets in_chunk in_selection boxes)
      at (shared_is_buffer b group in_chunk in_selection boxes)

  module _ (elements cover : Box) (is_box : IsBox elements) (is : IsCover ds elements cover) where
    pub over : AreOver ds elements.start elements.shape cover.start (lasts cover.start cover.shape)
    over = (is.first, is.last)

    pub as_many_each : AsMany ds each elements.start elements.shape cover.start (lasts cover.start cover.shape)
    as_many_each =
        let starts = length_values Holds ds cover.start elements.start is.first in
        record {
          each_many = many;
          start_many = starts;
          shape_many = omega (arith, is_box.lengths, starts);
          first_many = length_numbers Holds ds cover.start elements.start is.first;
          last_many = length_numbers Holds ds (lasts cover.start cover.shape) (lasts elements.start elements.shape) is.last;
        }

    -- the groups from the one of the first chunk to the one of the last are the cover of the box by groups
    pub is_group_cover : (¬ IsEmptyBox elements) → IsCover (groups ds each) elements (groups_from each cover)
    is_group_cover some =
        let first = groups_of each cover.start in
        let last = groups_of each (lasts cover.start cover.shape) in
        let in_first = joins ds each cover.start elements.start chains many is.first in
        let in_last = joins ds each _ _ chains many is.last in
        let order = in_order (groups ds each) first last elements.start (lasts elements.start elements.shape) are_chains
        (firsts_before_lasts elements.start elements.shape is_box.lengths) in_first in_last in
        let small = chunks_small (λ n. n < greatest) (λ m n low below. omega arith) (groups ds each) last (lasts elements.start elements.shape) are_chains
        in_last (lasts_small elements.start elements.shape is_box.lengths is_box.fits some) in
        let (lengths, same) = counts_reach first last order small in
        is_cover (groups ds each) elements (groups_from each cover) first last (record { lengths = lengths; fits = rw same (ones_fit last small) }) refl
        same order in_first in_last

    -- the groups that hold some of the box, as a box of their numbers
    pub groups_named : (¬ IsEmptyBox elements) → (group : List ℕ)
        → IsInside (groups_from each cover) group ↔ HoldsSomeOf ds (numbers each) elements group
    groups_named some group =
        let holds = meets_as_chunk elements group in
        let named = (covers_some (groups ds each) elements (groups_from each cover) are_chains is_box some (is_group_cover some)).named group in
        (λ within. holds.1 (named.0 within), λ has. named.1 (holds.0 has))
