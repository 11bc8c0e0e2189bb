-- The counts of the groups that hold some of a box of elements, a dimension after another.
use Rattle.std.proofs.Common.{◌≡◌, ◌≢◌, ◌∙◌, ℕ, zero, suc, ◌+◌, ◌<◌, ◌≤◌, List, [], ◌∷◌, ◌++◌, Contains, length, map, refl, ap, ap₂, sym, take, replicate, arith}
use Rattle.std.proofs.Common.{slice_index_or}
use Rattle.std.proofs.lemmas.List.{length-map, length-replicate, map-append, take_all, take_more}
use Rattle.std.specs.Int.NonZero.{non_zero_u64_get}
use Rattle.std.specs.List.{AllByRecursion, sum}
use Rattle.std.specs.declared.num.NonZeroU64.{NonZeroU64}
use Rattle.zarrs_chunk_base.specs.ArraySubset.{AreWithin, Box, IsBox, IsEmptyBox, ends, lasts}
use Rattle.zarrs_chunk_base.specs.Dimension.{Dimension, Holds, IsChain, array_sizes}
use Rattle.zarrs_chunk_base.specs.Greatest.{AllFit, greatest}
use Rattle.zarrs_chunk_base.proofs.Boxes.{within_lengths}
use Rattle.zarrs_chunk_base.proofs.InEach.{length_numbers}
use Rattle.zarrs_chunk_axes.specs.Along.{Along}
use Rattle.zarrs_chunks.specs.Subsets.{IsCover}
use Rattle.zarrs_chunks.specs.Walks.{chunks_in}
use Rattle.zarrs_chunks.proofs.ChunksInBoxes.{are_those_inside}
use Rattle.zarrs_chunks.proofs.Covers.{head_some, tail_some}
use Rattle.zarrs_chunk_plan.specs.Counts.{product}
use Rattle.zarrs_chunk_plan.specs.Region.{EndWithin, LiesIn}
use Rattle.zarrs_chunk_plan.specs.seen.Sources.{met, met_by, met_in}
use Rattle.zarrs_chunk_plan.proofs.MovedBoxes.{within_long, within_starts}
use Rattle.zarrs_chunk_plan.proofs.Plans.{not_empty_if_inside}
use Rattle.zarrs_chunk_plan.proofs.Products.{greatest_of, greatest_of_products, met_by_all, products, sum_of_products}
use Rattle.zarrs_chunk_plan.proofs.TakenBoxes.{AllTakeSome, meets_take}
use Rattle.zarrs_chunk_tasks.specs.Counts.{AreNone}
use Rattle.zarrs_chunk_tasks.specs.declared.counts.CountsAlong.{CountsAlong}
use Rattle.zarrs_chunk_tasks.specs.declared.copied.Grouped.{Grouped}
use Rattle.zarrs_chunk_tasks.specs.declared.groups_along.Sums.{Sums}
use Rattle.zarrs_chunk_tasks.specs.seen.Counts.{AreCopied, AreGroupCounts, AreGrouped, AreLists, AreLong, AreSums, AreTaking, IsGrouped, indices, of_each_group, of_groups, of_groups_each, whole}
use Rattle.zarrs_chunk_tasks.specs.seen.Grouped.{all_grouped, grouped}
use Rattle.zarrs_chunk_tasks.specs.seen.Tasks.{AreGroups}
use Rattle.zarrs_chunk_tasks.specs.seen.GroupNumbers.{groups_of}
use Rattle.zarrs_chunk_tasks.proofs.CountsOfEach.{Count, each_long, in_box_many, tables_long}
use Rattle.zarrs_chunk_tasks.proofs.GroupBoxes.{AreOver, AsMany, as_many_each, fewer, groups, in_group, joins, meets_as_chunk, numbers}
use Rattle.zarrs_chunk_tasks.proofs.SumsAlong.{One}

-- ---- one of the dimensions

-- the first list of a box that isn't empty lies in it
pub first_within : (start shape : List ℕ) → length start ≡ length shape → (¬ Contains shape 0) → AreWithin start shape start
first_within [] [] e some = tt
first_within (a ∷ start) (n ∷ shape) e some =
    let here = head_some n shape some in
    (omega arith, omega arith, first_within start shape (omega arith) (tail_some n shape some))
first_within _ _ e some = absurd (omega arith)

-- where each group of a box takes some of the elements, each one does so along each dimension
all_taking : (ds : List Dimension) (each : List NonZeroU64) (start shape first last group groups_ : List ℕ) (any : NonZeroU64) (k : ℕ)
    → AsMany ds each start shape first last → EndWithin start shape (array_sizes ds) → length group ≡ length ds → length groups_ ≡ length ds
    → (¬ Contains shape 0) → (¬ Contains groups_ 0)
    → AllFit (ends start shape) → AllFit (ends group groups_) → AreOver ds start shape first last
    → ((numbers : List ℕ) → AreWithin group groups_ numbers → AllTakeSome (groups ds each) start shape numbers) → k < length ds
    → Along (AreTaking (non_zero_u64_get (slice_index_or each k any)) (slice_index_or start k 0) (slice_index_or shape k 0) (slice_index_or first k 0)
    (slice_index_or last k 0) (slice_index_or group k 0) (slice_index_or groups_ k 0)) ds k
all_taking (d ∷ ds) (k ∷ each) (a ∷ start) (n ∷ shape) (f ∷ first) (l ∷ last) (t ∷ group) (m ∷ groups_) any zero long lies e g some many fit fit_groups over takes
    within = record {
      over = record { some = head_some n shape some; fits = fit.0; low = over.0.0; high = over.1.0 };
      within = lies.0;
      take = λ u from below. (takes (u ∷ group) (from, below, first_within group groups_ (omega arith) (tail_some m groups_ many))).0;
      groups_fit = fit_groups.0;
    }
all_taking (d ∷ ds) (k ∷ each) (a ∷ start) (n ∷ shape) (f ∷ first) (l ∷ last) (t ∷ group) (m ∷ groups_) any (suc j) long lies e g some many fit fit_groups over takes
    within =
    let here = head_some m groups_ many in
    all_taking ds each start shape first last group groups_ any j (fewer long) lies.1 (omega arith) (omega arith) (tail_some n shape some) (tail_some m groups_ many)
    fit.1 fit_groups.1 (over.0.1, over.1.1) (λ numbers inside. (takes (t ∷ numbers) (omega arith, omega arith, inside)).1) (omega arith)
all_taking _ _ _ _ _ _ _ _ any k long lies e g some many fit fit_groups over takes within =
    absurd (omega (arith, long.each_many, long.start_many, long.shape_many, long.first_many, long.last_many))

-- what holds of the counts of the groups along the dimension of a number holds of their row in the table
row_of : (count : Count) (R : List ℕ → Type 0) (ds others : List Dimension) (each : List NonZeroU64) (first start shape group groups_ : List ℕ) (any : NonZeroU64)
    (k : ℕ) → length others ≡ length ds → length each ≡ length ds → length first ≡ length ds → length start ≡ length ds → length shape ≡ length ds
    → length group ≡ length ds → length groups_ ≡ length ds
    → Along (λ d. Along (λ s. R (of_groups count s (grouped d (non_zero_u64_get (slice_index_or each k any))) (slice_index_or first k 0)
    (slice_index_or start k 0) (slice_index_or shape k 0) (slice_index_or group k 0) (slice_index_or groups_ k 0))) others k) ds k
    → R (slice_index_or (met_in (of_groups_each count others (groups ds each) first start shape) group groups_) k [])
row_of count R (d ∷ ds) (s ∷ others) (k ∷ each) (f ∷ first) (a ∷ start) (n ∷ shape) (t ∷ group) (m ∷ groups_) any zero e1 e2 e3 e4 e5 e6 e7 is = is
row_of count R (d ∷ ds) (s ∷ others) (k ∷ each) (f ∷ first) (a ∷ start) (n ∷ shape) (t ∷ group) (m ∷ groups_) any (suc j) e1 e2 e3 e4 e5 e6 e7 is =
    row_of count R ds others each first start shape group groups_ any j (omega arith) (omega arith) (omega arith) (omega arith) (omega arith) (omega arith)
    (omega arith) is
row_of count R _ _ _ _ _ _ _ _ any k e1 e2 e3 e4 e5 e6 e7 is = absurd (first_of (assumption, omega arith))

-- sums of the same groups
pub same_sums : {k at size group many k_also at_also size_also group_also many_also first : ℕ} {d other : Dimension} {sums : Sums} → k ≡ k_also → at ≡ at_also
    → size ≡ size_also → group ≡ group_also → many ≡ many_also → AreSums k at size group many first d other sums
    → AreSums k_also at_also size_also group_also many_also first d other sums
same_sums each at size group many are = rw (each, at, size, group, many) at are

map_more : (f : List ℕ → ℕ) (lists : List (List ℕ)) (k : ℕ) → k < length lists
    → map f (take (k + 1) lists) ≡ map f (take k lists) ++ f (slice_index_or lists k []) ∷ []
map_more f lists k within = ap (map f) (take_more lists k [] within) ∙ map-append f (take k lists) (slice_index_or lists k [] ∷ [])

-- ---- all dimensions

module _ (source target ds : List Dimension) (each : List NonZeroU64) (elements group_box : Box) (first at : List ℕ) where
  -- the counts of all groups along each dimension, from where a box begins in an array of other chunks
  abbrev table : Count → List Dimension → List ℕ → List (List ℕ)
  table count others begin =
      met_in (of_groups_each count others (groups ds each) begin elements.start elements.shape) group_box.start group_box.shape

  -- the counts so far are those of the first dimensions
  pub record RowsSoFar (k : ℕ) (along : List CountsAlong) : Type 0 where
    pub tasks : map (λ (counts : CountsAlong). counts.tasks) along ≡ take k group_box.shape
    pub largest_task : map (λ (counts : CountsAlong). counts.largest_task) along ≡ map greatest_of (take k (table indices source first))
    pub chunks_read : map (λ (counts : CountsAlong). counts.chunks_read) along ≡ map sum (take k (table met source first))
    pub elements_decoded : map (λ (counts : CountsAlong). counts.elements_decoded) along ≡ map sum (take k (table whole source first))
    pub chunks_written : map (λ (counts : CountsAlong). counts.chunks_written) along ≡ map sum (take k (table met target at))

  module _ (long : AreLong source target ds each elements group_box first at) (groups_many : length (groups ds each) ≡ length ds) where
    counters_long : (count : Count) (others : List Dimension) (begin : List ℕ) → length others ≡ length ds → length begin ≡ length ds
        → length (of_groups_each count others (groups ds each) begin elements.start elements.shape) ≡ length ds
    counters_long count others begin e f =
        each_long count others (groups ds each) begin elements.start elements.shape (omega (arith, groups_many)) (omega (arith, groups_many))
        (omega (arith, long.start_long, groups_many)) (omega (arith, long.shape_long, groups_many)) ∙ groups_many

    table_long : (count : Count) (others : List Dimension) (begin : List ℕ) → length others ≡ length ds → length begin ≡ length ds
        → length (table count others begin) ≡ length ds
    table_long count others begin e f =
        let many = counters_long count others begin e f in
        tables_long (of_groups_each count others (groups ds each) begin elements.start elements.shape) group_box.start group_box.shape
        (omega (arith, many, long.group_long)) (omega (arith, many, long.groups_long)) ∙ many

    -- one dimension more
    module _ (any : NonZeroU64) (k : ℕ) (within : k < length ds) (d_one : One ds k) (source_one : One source k) (target_one : One target k) where
      abbrev Sum : (others : Dimension) → (begin : ℕ) → Sums → Type 0
      Sum other begin = AreSums (non_zero_u64_get (slice_index_or each k any)) (slice_index_or elements.start k 0) (slice_index_or elements.shape k 0)
          (slice_index_or group_box.start k 0) (slice_index_or group_box.shape k 0) begin d_one.d other

      row_is : (count : Count) (others : List Dimension) (begin : List ℕ) (o : One others k) (R : List ℕ → Type 0) → length others ≡ length ds
          → length begin ≡ length ds
          → R (of_groups count o.d (grouped d_one.d (non_zero_u64_get (slice_index_or each k any))) (slice_index_or begin k 0)
          (slice_index_or elements.start k 0) (slice_index_or elements.shape k 0) (slice_index_or group_box.start k 0) (slice_index_or group_box.shape k 0))
          → R (slice_index_or (table count others begin) k [])
      row_is count others begin o R e f has =
          row_of count R ds others each begin elements.start elements.shape group_box.start group_box.shape any k e long.each_long f long.start_long
          long.shape_long long.group_long long.groups_long
          (d_one.back _ (o.back _ has))

      pub row_more : (along : List CountsAlong) (counts : CountsAlong) (read written : Sums) → RowsSoFar k along
          → Sum source_one.d (slice_index_or first k 0) read → Sum target_one.d (slice_index_or at k 0) written
          → counts.tasks ≡ slice_index_or group_box.shape k 0 → counts.largest_task ≡ read.largest → counts.chunks_read ≡ read.chunks
          → counts.elements_decoded ≡ read.elements → counts.chunks_written ≡ written.chunks → RowsSoFar (k + 1) (along ++ counts ∷ [])
      row_more along counts read written so_far reads writes tasks largest chunks elements_are chunks_written = record {
        tasks = map-append (λ (c : CountsAlong). c.tasks) along (counts ∷ []) ∙ ap₂ (λ xs x. xs ++ x ∷ []) so_far.tasks tasks
            ∙ sym (take_more group_box.shape k 0 (omega (arith, long.groups_long)));
        largest_task = more (λ (c : CountsAlong). c.largest_task) greatest_of indices source first so_far.largest_task
            (row_is indices source first source_one (λ row. counts.largest_task ≡ greatest_of row) long.source_long long.first_long (largest ∙ reads.largest))
            long.source_long long.first_long;
        chunks_read = more (λ (c : CountsAlong). c.chunks_read) sum met source first so_far.chunks_read
            (row_is met source first source_one (λ row. counts.chunks_read ≡ sum row) long.source_long long.first_long (chunks ∙ reads.chunks))
            long.source_long long.first_long;
        elements_decoded = more (λ (c : CountsAlong). c.elements_decoded) sum whole source first so_far.elements_decoded
            (row_is whole source first source_one (λ row. counts.elements_decoded ≡ sum row) long.source_long long.first_long
            (elements_are ∙ reads.elements)) long.source_long long.first_long;
        chunks_written = more (λ (c : CountsAlong). c.chunks_written) sum met target at so_far.chunks_written
            (row_is met target at target_one (λ row. counts.chunks_written ≡ sum row) long.target_long long.at_long (chunks_written ∙ writes.chunks))
            long.target_long long.at_long;
      } where
        more : (field : CountsAlong → ℕ) (op : List ℕ → ℕ) (count : Count) (others : List Dimension) (begin : List ℕ)
            → map field along ≡ map op (take k (table count others begin)) → field counts ≡ op (slice_index_or (table count others begin) k [])
            → length others ≡ length ds → length begin ≡ length ds
            → map field (along ++ counts ∷ []) ≡ map op (take (k + 1) (table count others begin))
        more field op count others begin before here e f =
            map-append field along (counts ∷ []) ∙ ap₂ (λ xs x. xs ++ x ∷ []) before here
            ∙ sym (map_more op (table count others begin) k (omega (arith, table_long count others begin e f)))

    -- after the last one
    pub rows_are : (is_box : IsBox group_box) (named : AreGroups ds (numbers each) elements group_box) (k : ℕ) (along : List CountsAlong) → length ds ≤ k
        → (¬ IsEmptyBox elements) → RowsSoFar k along → AreGroupCounts source target ds (numbers each) elements first at along
    rows_are is_box named k along ended some rows = record {
      long = sym (length-map along (λ (counts : CountsAlong). counts.tasks)) ∙ ap length (rows.tasks ∙ take_all k group_box.shape (omega (arith, ended, long.groups_long)))
          ∙ long.groups_long;
      of_none = λ empty. absurd (some empty);
      groups = group_box;
      is_box = is_box;
      are_groups = named;
      tasks = ap product (rows.tasks ∙ take_all k group_box.shape (omega (arith, ended, long.groups_long))) ∙ sym (in_box_many group_box);
      largest_task = ap product (rows.largest_task ∙ ap (map greatest_of) (all indices source first long.source_long long.first_long))
          ∙ sym (greatest_of_products (table indices source first)) ∙ ap greatest_of (all_products indices source first long.source_long long.first_long);
      chunks_read = summed met source first long.source_long long.first_long rows.chunks_read;
      elements_decoded = summed whole source first long.source_long long.first_long rows.elements_decoded;
      chunks_written = summed met target at long.target_long long.at_long rows.chunks_written;
    } where
      all : (count : Count) (others : List Dimension) (begin : List ℕ) → length others ≡ length ds → length begin ≡ length ds
          → take k (table count others begin) ≡ table count others begin
      all count others begin e f = take_all k (table count others begin) (omega (arith, ended, table_long count others begin e f))

      all_products : (count : Count) (others : List Dimension) (begin : List ℕ) (e : length others ≡ length ds) (f : length begin ≡ length ds)
          → products (table count others begin) ≡ of_each_group count others (groups ds each) begin elements group_box
      all_products count others begin e f =
          let many = counters_long count others begin e f in
          sym (met_by_all (of_groups_each count others (groups ds each) begin elements.start elements.shape) group_box.start group_box.shape
          (omega (arith, many, long.group_long)) (omega (arith, many, long.groups_long)))

      summed : (count : Count) (others : List Dimension) (begin : List ℕ) (e : length others ≡ length ds) (f : length begin ≡ length ds)
          → {numbers : List ℕ} → numbers ≡ map sum (take k (table count others begin))
          → product numbers ≡ sum (of_each_group count others (groups ds each) begin elements group_box)
      summed count others begin e f is =
          ap product (is ∙ ap (map sum) (all count others begin e f)) ∙ sym (sum_of_products (table count others begin))
          ∙ ap sum (all_products count others begin e f)

-- ---- no groups

product_of_zeros : {X : Type 0} (f : X → ℕ) (x : X) (n : ℕ) → f x ≡ 0 → 0 < n → product (map f (replicate n x)) ≡ 0
product_of_zeros f x zero none some = absurd (omega arith)
product_of_zeros f x (suc n) none some = rw none (omega arith)

nothing : {X : Type 0} (xs : List X) → ((x : X) → ¬ Contains xs x) → xs ≡ []
nothing [] none = refl
nothing (x ∷ xs) none = absurd (none x (zero, omega arith, refl))

some_more : (m n : ℕ) → m ≡ n → n ≢ 0 → 0 < m
some_more m zero same some = absurd (some refl)
some_more m (suc n) same some = omega arith

-- of an empty box there are none
pub none_are : (source target ds : List Dimension) (each : List ℕ) (elements group_box : Box) (first at : List ℕ) (of_none : CountsAlong) (n : ℕ)
    → IsEmptyBox elements → n ≡ length ds → length ds ≢ 0 → IsBox group_box → AreGroups ds each elements group_box → AreNone of_none
    → AreGroupCounts source target ds each elements first at (replicate n of_none)
none_are source target ds each elements group_box first at of_none n empty same any is_box named zeros = record {
  long = length-replicate n of_none ∙ same;
  of_none = λ _. all_same n;
  groups = group_box;
  is_box = is_box;
  are_groups = named;
  tasks = product_of_zeros (λ (c : CountsAlong). c.tasks) of_none n zeros.tasks some ∙ ap length (sym none);
  largest_task = product_of_zeros (λ (c : CountsAlong). c.largest_task) of_none n zeros.largest_task some ∙ ap greatest_of (sym (of_nothing indices source first));
  chunks_read = product_of_zeros (λ (c : CountsAlong). c.chunks_read) of_none n zeros.chunks_read some ∙ ap sum (sym (of_nothing met source first));
  elements_decoded = product_of_zeros (λ (c : CountsAlong). c.elements_decoded) of_none n zeros.elements_decoded some ∙ ap sum (sym (of_nothing whole source first));
  chunks_written = product_of_zeros (λ (c : CountsAlong). c.chunks_written) of_none n zeros.chunks_written some ∙ ap sum (sym (of_nothing met target at));
} where
  some : 0 < n
  some = some_more n (length ds) same any

  all_same : (m : ℕ) → AllByRecursion AreNone (replicate m of_none)
  all_same zero = tt
  all_same (suc m) = (zeros, all_same m)

  none : chunks_in group_box ≡ []
  none =
      nothing (chunks_in group_box)
      (λ group among.
      let (index, inside, _) = (named group).0 ((are_those_inside group_box is_box group).0 among) in
      not_empty_if_inside elements.start elements.shape index inside empty)

  of_nothing : (count : Count) (others : List Dimension) (begin : List ℕ)
      → of_each_group count others (all_grouped ds each) begin elements group_box ≡ []
  of_nothing count others begin =
      ap (map (λ group. product (met_by (of_groups_each count others (all_grouped ds each) begin elements.start elements.shape) group))) none

-- ---- the numbers of dimensions

-- a group that holds the first element is in the box of groups, so that has a number for each dimension, and isn't empty
pub record SomeGroups (source target ds : List Dimension) (each : List NonZeroU64) (elements group_box : Box) (first at : List ℕ) : Type 0 where
  pub long : AreLong source target ds each elements group_box first at
  pub many : ¬ Contains group_box.shape 0

some_groups : (source target ds : List Dimension) (each : List NonZeroU64) (elements cover group_box : Box) (first at : List ℕ) → AllByRecursion IsChain ds
    → length each ≡ length ds → IsBox elements → (¬ IsEmptyBox elements) → LiesIn elements (array_sizes ds) → IsCover ds elements cover → IsBox group_box
    → AreGroups ds (numbers each) elements group_box → AreCopied source target elements first at
    → SomeGroups source target ds each elements group_box first at
some_groups source target ds each elements cover group_box first at chains many is_box some lies is is_groups named copied =
    let inside = first_within elements.start elements.shape is_box.lengths some in
    let there = (in_group ds each chains many (groups_of each cover.start) elements.start).1 (joins ds each cover.start elements.start chains many is.first) in
    let within = (named (groups_of each cover.start)).1 (elements.start, inside, there) in
    let long = within_lengths group_box.start group_box.shape (groups_of each cover.start) within in
    let shape = within_long elements.start elements.shape (array_sizes ds) lies in
    let sizes = length-map ds (λ (d : Dimension). d.array_size) in
    let source_sizes = length-map source (λ (d : Dimension). d.array_size) in
    let target_sizes = length-map target (λ (d : Dimension). d.array_size) in
    let group_many = length_groups each cover.start (omega (arith, length_numbers Holds ds cover.start elements.start is.first, many)) in
    record {
      long = record {
        source_long = omega (arith, within_long first elements.shape (array_sizes source) copied.in_source, shape, sizes, source_sizes);
        target_long = omega (arith, within_long at elements.shape (array_sizes target) copied.in_target, shape, sizes, target_sizes);
        each_long = many;
        first_long = omega (arith, copied.from.lengths, shape, sizes);
        at_long = omega (arith, copied.into.lengths, shape, sizes);
        start_long = omega (arith, is_box.lengths, shape, sizes);
        shape_long = omega (arith, shape, sizes);
        group_long = omega (arith, long, group_many, many);
        groups_long = omega (arith, long, group_many, many, is_groups.lengths);
      };
      many = not_empty_if_inside group_box.start group_box.shape (groups_of each cover.start) within;
    } where
      length_groups : (each : List NonZeroU64) (chunk : List ℕ) → length chunk ≡ length each → length (groups_of each chunk) ≡ length each
      length_groups [] [] same = refl
      length_groups (k ∷ each) (c ∷ chunk) same = ap suc (length_groups each chunk (omega arith))
      length_groups _ _ same = absurd (omega arith)

-- each of the groups takes some of the elements, along each dimension
groups_take : (ds : List Dimension) (each : List NonZeroU64) (elements cover group_box : Box) → AllByRecursion IsChain ds → (many : length each ≡ length ds)
    → IsBox elements → (¬ IsEmptyBox elements) → LiesIn elements (array_sizes ds) → IsCover ds elements cover → IsBox group_box
    → AreGroups ds (numbers each) elements group_box → length group_box.start ≡ length ds → (¬ Contains group_box.shape 0) → (any : NonZeroU64) (k : ℕ) → k < length ds
    → Along (AreTaking (non_zero_u64_get (slice_index_or each k any)) (slice_index_or elements.start k 0) (slice_index_or elements.shape k 0)
    (slice_index_or cover.start k 0) (slice_index_or (lasts cover.start cover.shape) k 0) (slice_index_or group_box.start k 0)
    (slice_index_or group_box.shape k 0)) ds k
groups_take ds each elements cover group_box chains many is_box some lies is is_groups named group_long some_group any k within =
    all_taking ds each elements.start elements.shape cover.start (lasts cover.start cover.shape) group_box.start group_box.shape any k
    (as_many_each ds each chains many elements cover is_box is) lies group_long (omega (arith, group_long, is_groups.lengths)) some some_group is_box.fits
    is_groups.fits (is.first, is.last)
    (λ group inside. meets_take (groups ds each) elements group ((meets_as_chunk ds each chains many elements group).0 ((named group).0 inside))) within

-- what holds of a list of ranges holds of the one at a number
pub end_fits : (start shape : List ℕ) (k : ℕ) → AllFit (ends start shape) → k < length start → k < length shape
    → slice_index_or start k 0 + slice_index_or shape k 0 ≤ greatest
end_fits (s ∷ start) (n ∷ shape) zero fit one other = fit.0
end_fits (s ∷ start) (n ∷ shape) (suc k) fit one other = end_fits start shape k fit.1 (omega arith) (omega arith)
end_fits _ _ k fit one other = absurd (omega arith)

pub lies_at : (ds : List Dimension) (start shape : List ℕ) (k : ℕ) → EndWithin start shape (array_sizes ds) → k < length ds
    → Along (λ d. slice_index_or start k 0 + slice_index_or shape k 0 ≤ d.array_size) ds k
lies_at (d ∷ ds) (s ∷ start) (n ∷ shape) zero lies within = lies.0
lies_at (d ∷ ds) (s ∷ start) (n ∷ shape) (suc k) lies within = lies_at ds start shape k lies.1 (omega arith)
lies_at [] start shape k lies within = absurd (omega arith)
lies_at (d ∷ ds) start shape k lies within =
    let sizes = array_sizes (d ∷ ds) in absurd (omega (arith, within_starts start shape sizes lies, within_long start shape sizes lies))

-- what is found of elements that aren't none is what is counted
pub are_grouped : {K : Type 0} (dimensions : K → List Dimension) (grid : K) (each : List NonZeroU64) (elements : Box) (source target : List Dimension)
    (first at : List ℕ) (given : Grouped K) → IsGrouped dimensions grid each elements given → AllByRecursion IsChain (dimensions grid) → IsBox elements
    → LiesIn elements (array_sizes (dimensions grid)) → length each ≡ length (dimensions grid) → AreCopied source target elements first at
    → AreGrouped dimensions source target first at given
are_grouped dimensions grid each elements source target first at given is chains is_box lies many copied =
    let ds = dimensions grid in
    let there = some_groups source target ds each elements given.cover given.groups first at chains many is_box is.some lies is.is_cover is.is_box is.named copied in
    let lists = as_many_each ds each chains many elements given.cover is_box is.is_cover in
    let long = there.long in
    rw (is.same_grid, is.same_each, is.same_elements) (record {
      some = is.some;
      is_box = is.is_box;
      named = is.named;
      long = long;
      cover_long = lists.first_many;
      last_long = ap length is.last ∙ lists.last_many;
      in_source = λ k within. lies_at source first elements.shape k copied.in_source (omega (arith, within, long.source_long));
      in_target = λ k within. lies_at target at elements.shape k copied.in_target (omega (arith, within, long.target_long));
      first_fits = λ k within. end_fits first elements.shape k copied.from.fits (omega (arith, within, long.first_long)) (omega (arith, within, long.shape_long));
      at_fits = λ k within. end_fits at elements.shape k copied.into.fits (omega (arith, within, long.at_long)) (omega (arith, within, long.shape_long));
      take = λ any k within.
          rw is.last
          (groups_take ds each elements given.cover given.groups chains many is_box is.some lies is.is_cover is.is_box is.named long.group_long there.many any k within);
    })

-- and so there is a number for each dimension
pub are_lists : {K : Type 0} (dimensions : K → List Dimension) (source target : List Dimension) (first at : List ℕ) (given : Grouped K) (k : ℕ)
    → AreGrouped dimensions source target first at given → k < length given.each.now → AreLists k given
are_lists dimensions source target first at given k are within =
    let long = are.long in
    record {
      each = within;
      start = omega (arith, within, long.each_long, long.start_long);
      shape = omega (arith, within, long.each_long, long.shape_long);
      cover = omega (arith, within, long.each_long, are.cover_long);
      last = omega (arith, within, long.each_long, are.last_long);
      group = omega (arith, within, long.each_long, long.group_long);
      groups = omega (arith, within, long.each_long, long.groups_long);
    }
