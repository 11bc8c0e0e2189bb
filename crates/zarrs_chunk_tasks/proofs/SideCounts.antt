-- The counts of tasks by groups of any size, a dimension after another.
use Rattle.std.proofs.Common.{◌≡◌, ◌∙◌, ℕ, suc, ◌+◌, ◌-◌, ◌/◌, List, [], ◌∷◌, Contains, length, map, min, refl, ap, ap₂, sym, take, arith}
use Rattle.std.proofs.Math.Nat.{div-le_self}
use Rattle.std.proofs.lemmas.List.{length-map, take_all}
use Rattle.std.specs.Int.NonZero.{non_zero_u64_get}
use Rattle.std.specs.List.{AllByRecursion, sum}
use Rattle.std.specs.declared.num.NonZeroU64.{NonZeroU64}
use Rattle.zarrs_chunk_base.specs.ArraySubset.{Box, IsBox, IsEmptyBox, ends, lasts}
use Rattle.zarrs_chunk_base.specs.Dimension.{Dimension, IsChain, array_sizes}
use Rattle.zarrs_chunk_base.specs.Greatest.{AllFit, greatest}
use Rattle.zarrs_chunks.proofs.Covers.{head_some, tail_some}
use Rattle.zarrs_chunks.specs.Subsets.{IsCover}
use Rattle.zarrs_chunk_plan.specs.Region.{EndWithin, LiesIn}
use Rattle.zarrs_chunk_plan.specs.seen.Sources.{met, met_in}
use Rattle.zarrs_chunk_plan.proofs.Products.{greatest_of}
use Rattle.zarrs_chunk_tasks.specs.declared.counts.CountsAlong.{CountsAlong}
use Rattle.zarrs_chunk_tasks.specs.seen.Counts.{AreGroupCounts, indices, of_groups, of_groups_each, whole}
use Rattle.zarrs_chunk_tasks.specs.seen.GroupNumbers.{counts_to, groups_of}
use Rattle.zarrs_chunk_tasks.specs.seen.Grouped.{grouped}
use Rattle.zarrs_chunk_tasks.specs.seen.Sizes.{IsSide, Side, all_counts, counts_by, groups_met, sides}
use Rattle.zarrs_chunk_tasks.proofs.CountsOfEach.{Count}
use Rattle.zarrs_chunk_tasks.proofs.GroupBoxes.{AreOver, AsMany, as_many_each, groups, groups_from, groups_named, is_group_cover, numbers, over}
use Rattle.zarrs_chunk_tasks.proofs.GroupCounts.{rows_are}
use Rattle.zarrs_chunk_tasks.proofs.GroupSizes.{chunk_small}
use Rattle.zarrs_chunk_tasks.proofs.Grouped.{as_many_grouped}

-- ---- the dimensions of a copy

-- the lists that the dimensions are of
pub record AreLists (source target : List Dimension) (first at shape low high : List ℕ) (all : List Side) : Type 0 where
  pub sources : map (λ (side : Side). side.source) all ≡ source
  pub targets : map (λ (side : Side). side.target) all ≡ target
  pub firsts : map (λ (side : Side). side.first) all ≡ first
  pub ats : map (λ (side : Side). side.at) all ≡ at
  pub sizes : map (λ (side : Side). side.size) all ≡ shape
  pub lows : map (λ (side : Side). side.low) all ≡ low
  pub highs : map (λ (side : Side). side.high) all ≡ high

-- each list has as many numbers as there are dimensions
pub record AreAsMany (source target : List Dimension) (first at shape low high : List ℕ) : Type 0 where
  pub source_many : length source ≡ length target
  pub first_many : length first ≡ length target
  pub at_many : length at ≡ length target
  pub shape_many : length shape ≡ length target
  pub low_many : length low ≡ length target
  pub high_many : length high ≡ length target

pub fewer_lists : {s t : Dimension} {source target : List Dimension} {f a n l h : ℕ} {first at shape low high : List ℕ}
    → AreAsMany (s ∷ source) (t ∷ target) (f ∷ first) (a ∷ at) (n ∷ shape) (l ∷ low) (h ∷ high) → AreAsMany source target first at shape low high
fewer_lists many = record {
  source_many = omega (arith, many.source_many);
  first_many = omega (arith, many.first_many);
  at_many = omega (arith, many.at_many);
  shape_many = omega (arith, many.shape_many);
  low_many = omega (arith, many.low_many);
  high_many = omega (arith, many.high_many);
}

pub sides_are : (source target : List Dimension) (first at shape low high : List ℕ) → AreAsMany source target first at shape low high
    → AreLists source target first at shape low high (sides source target first at shape low high)
sides_are [] [] [] [] [] [] [] many =
    record { sources = refl; targets = refl; firsts = refl; ats = refl; sizes = refl; lows = refl; highs = refl }
sides_are (s ∷ source) (t ∷ target) (f ∷ first) (a ∷ at) (n ∷ shape) (l ∷ low) (h ∷ high) many =
    let rest = sides_are source target first at shape low high (fewer_lists many) in
    record {
      sources = ap (λ xs. s ∷ xs) rest.sources;
      targets = ap (λ xs. t ∷ xs) rest.targets;
      firsts = ap (λ xs. f ∷ xs) rest.firsts;
      ats = ap (λ xs. a ∷ xs) rest.ats;
      sizes = ap (λ xs. n ∷ xs) rest.sizes;
      lows = ap (λ xs. l ∷ xs) rest.lows;
      highs = ap (λ xs. h ∷ xs) rest.highs;
    }
sides_are _ _ _ _ _ _ _ many =
    absurd (omega (arith, many.source_many, many.first_many, many.at_many, many.shape_many, many.low_many, many.high_many))

pub as_many_sides : (source target : List Dimension) (first at shape low high : List ℕ) → AreAsMany source target first at shape low high
    → length (sides source target first at shape low high) ≡ length target
as_many_sides source target first at shape low high many =
    sym (length-map (sides source target first at shape low high) (λ (side : Side). side.target))
    ∙ ap length (sides_are source target first at shape low high many).targets

pub all_sides : (source target : List Dimension) (first at shape low high : List ℕ) → AllByRecursion IsChain target → AreAsMany source target first at shape low high
    → (¬ Contains shape 0) → AllFit (ends at shape) → EndWithin at shape (array_sizes target) → AreOver target at shape low high
    → AllByRecursion IsSide (sides source target first at shape low high)
all_sides [] [] [] [] [] [] [] chains many some fit lies over = tt
all_sides (s ∷ source) (t ∷ target) (f ∷ first) (a ∷ at) (n ∷ shape) (l ∷ low) (h ∷ high) chains many some fit lies over = (
  record {
    chain = chains.0;
    over = record { some = head_some n shape some; fits = fit.0; low = over.0.0; high = over.1.0 };
    within = lies.0;
  },
  all_sides source target first at shape low high chains.1 (fewer_lists many)
      (tail_some n shape some) fit.1 lies.1 (over.0.1, over.1.1),
)
all_sides _ _ _ _ _ _ _ chains many some fit lies over =
    absurd (omega (arith, many.source_many, many.first_many, many.at_many, many.shape_many, many.low_many, many.high_many))

-- ---- what is counted of groups

abbrev lows : List Side → List ℕ
lows = map (λ (side : Side). side.low)

abbrev highs : List Side → List ℕ
highs = map (λ (side : Side). side.high)

-- so many groups are counted, and none is cut off
many_groups : (side : Side) (k : ℕ) → IsSide side → min (side.high / k - side.low / k + 1) greatest ≡ groups_met side k
many_groups side k is =
    omega (arith, div-le_self side.high k, chunk_small side.target is.chain side.at side.size side.low side.high is.over)

groups_are : (all : List Side) (each : List NonZeroU64) → length each ≡ length all → AllByRecursion IsSide all
    → map (λ (counts : CountsAlong). counts.tasks) (all_counts all (numbers each)) ≡ counts_to (groups_of each (lows all)) (groups_of each (highs all))
groups_are [] [] many are = refl
groups_are (side ∷ all) (k ∷ each) many are =
    ap₂ (λ n ns. n ∷ ns) (sym (many_groups side (non_zero_u64_get k) are.0)) (groups_are all each (omega arith) are.1)
groups_are _ _ many are = absurd (omega arith)

-- what is counted of a dimension's groups is in a row of the table
module _ (field : CountsAlong → ℕ) (op : List ℕ → ℕ) (count : Count) (other : Side → Dimension) (begin : Side → ℕ)
    (is : (side : Side) (k : ℕ) → field (counts_by side k)
    ≡ op (of_groups count (other side) (grouped side.target k) (begin side) side.at side.size (side.low / k) (groups_met side k))) where
  fields_are : (all : List Side) (each : List NonZeroU64) → length each ≡ length all → AllByRecursion IsSide all
      → map field (all_counts all (numbers each))
      ≡ map op (met_in (of_groups_each count (map other all) (groups (map (λ (side : Side). side.target) all) each) (map begin all)
      (map (λ (side : Side). side.at) all) (map (λ (side : Side). side.size) all)) (groups_of each (lows all))
      (counts_to (groups_of each (lows all)) (groups_of each (highs all))))
  fields_are [] [] many are = refl
  fields_are (side ∷ all) (k ∷ each) many are =
      let size = non_zero_u64_get k in
      ap₂ (λ n ns. n ∷ ns)
      (is side size ∙ ap (λ n. op (of_groups count (other side) (grouped side.target size) (begin side) side.at side.size (side.low / size) n))
      (sym (many_groups side size are.0))) (fields_are all each (omega arith) are.1)
  fields_are _ _ many are = absurd (omega arith)

as_many_counts : (all : List Side) (each : List ℕ) → length each ≡ length all → length (all_counts all each) ≡ length all
as_many_counts [] [] many = refl
as_many_counts (side ∷ all) (k ∷ each) many = ap suc (as_many_counts all each (omega arith))
as_many_counts _ _ many = absurd (omega arith)

-- ---- the counts of tasks

module _ (source target : List Dimension) (each : List NonZeroU64) (elements cover : Box) (first : List ℕ) (chains : AllByRecursion IsChain target)
    (many : length each ≡ length target) (is_box : IsBox elements) (some : ¬ IsEmptyBox elements) (lies : LiesIn elements (array_sizes target))
    (is : IsCover target elements cover) (source_many : length source ≡ length target) (first_many : length first ≡ length target) where
  abbrev pub all : List Side
  all = sides source target first elements.start elements.shape cover.start (lasts cover.start cover.shape)

  as_many : AsMany target each elements.start elements.shape cover.start (lasts cover.start cover.shape)
  as_many = as_many_each target each chains many elements cover is_box is

  pub lists_many : AreAsMany source target first elements.start elements.shape cover.start (lasts cover.start cover.shape)
  lists_many = record {
    source_many = source_many;
    first_many = first_many;
    at_many = as_many.start_many;
    shape_many = as_many.shape_many;
    low_many = as_many.first_many;
    high_many = as_many.last_many;
  }

  lists : AreLists source target first elements.start elements.shape cover.start (lasts cover.start cover.shape) all
  lists = sides_are source target first elements.start elements.shape cover.start (lasts cover.start cover.shape) lists_many

  pub are_sides : AllByRecursion IsSide all
  are_sides =
      all_sides source target first elements.start elements.shape cover.start (lasts cover.start cover.shape) chains lists_many some is_box.fits lies
      (over target each chains many elements cover is_box is)

  pub sides_many : length all ≡ length target
  sides_many = as_many_sides source target first elements.start elements.shape cover.start (lasts cover.start cover.shape) lists_many

  each_many : length each ≡ length all
  each_many = many ∙ sym sides_many

  abbrev box : Box
  box = groups_from each cover

  is_group_box : IsBox box
  is_group_box = (is_group_cover target each chains many elements cover is_box is some).is_box

  tasks_are : map (λ (counts : CountsAlong). counts.tasks) (all_counts all (numbers each)) ≡ box.shape
  tasks_are = rw (lists.lows, lists.highs) at (groups_are all each each_many are_sides)

  abbrev table : Count → List Dimension → List ℕ → List (List ℕ)
  table count others begin = met_in (of_groups_each count others (groups target each) begin elements.start elements.shape) box.start box.shape

  counts_long : length (all_counts all (numbers each)) ≡ length target
  counts_long = as_many_counts all (numbers each) (length-map each non_zero_u64_get ∙ each_many) ∙ sides_many

  box_long : length box.shape ≡ length target
  box_long = sym (ap length tasks_are) ∙ length-map (all_counts all (numbers each)) (λ (counts : CountsAlong). counts.tasks) ∙ counts_long

  groups_many : length (groups target each) ≡ length target
  groups_many = as_many_grouped target (numbers each) (length-map each non_zero_u64_get ∙ many)

  -- the counts along each dimension are what is counted of its row of the table
  rows_of_table : (field : CountsAlong → ℕ) (op : List ℕ → ℕ) (count : Count) (others : List Dimension) (begin : List ℕ)
      → map field (all_counts all (numbers each)) ≡ map op (table count others begin)
      → map field (all_counts all (numbers each)) ≡ map op (take (length target) (table count others begin))
  rows_of_table field op count others begin are =
      are ∙ ap (map op) (sym (take_all (length target) (table count others begin) (omega (arith, long)))) where
        long : length (table count others begin) ≡ length target
        long =
            sym (length-map (table count others begin) op) ∙ ap length (sym are) ∙ length-map (all_counts all (numbers each)) field ∙ counts_long

  pub group_counts : AreGroupCounts source target target (numbers each) elements first elements.start (all_counts all (numbers each))
  group_counts =
      rows_are source target target each elements box first elements.start (record {
        source_long = source_many;
        target_long = refl;
        each_long = many;
        first_long = first_many;
        at_long = as_many.start_many;
        start_long = as_many.start_many;
        shape_long = as_many.shape_many;
        group_long = omega (arith, is_group_box.lengths, box_long);
        groups_long = box_long;
      }) groups_many is_group_box (groups_named target each chains many elements cover is_box is some) (length target) (all_counts all (numbers each)) (omega arith)
      some (record {
        tasks = tasks_are ∙ sym (take_all (length target) box.shape (omega (arith, box_long)));
        largest_task = rows_of_table (λ (c : CountsAlong). c.largest_task) greatest_of indices source first
            (rw (lists.sources, lists.targets, lists.firsts, lists.ats, lists.sizes, lists.lows, lists.highs)
            at (fields_are (λ (c : CountsAlong). c.largest_task) greatest_of indices (λ (side : Side). side.source) (λ (side : Side). side.first) (λ side k. refl)
            all each each_many are_sides));
        chunks_read = rows_of_table (λ (c : CountsAlong). c.chunks_read) sum met source first
            (rw (lists.sources, lists.targets, lists.firsts, lists.ats, lists.sizes, lists.lows, lists.highs)
            at (fields_are (λ (c : CountsAlong). c.chunks_read) sum met (λ (side : Side). side.source) (λ (side : Side). side.first) (λ side k. refl)
            all each each_many are_sides));
        elements_decoded = rows_of_table (λ (c : CountsAlong). c.elements_decoded) sum whole source first
            (rw (lists.sources, lists.targets, lists.firsts, lists.ats, lists.sizes, lists.lows, lists.highs)
            at (fields_are (λ (c : CountsAlong). c.elements_decoded) sum whole (λ (side : Side). side.source) (λ (side : Side). side.first) (λ side k. refl)
            all each each_many are_sides));
        chunks_written = rows_of_table (λ (c : CountsAlong). c.chunks_written) sum met target elements.start
            (rw (lists.targets, lists.ats, lists.sizes, lists.lows, lists.highs)
            at (fields_are (λ (c : CountsAlong). c.chunks_written) sum met (λ (side : Side). side.target) (λ (side : Side). side.at) (λ side k. refl)
            all each each_many are_sides));
      })
