-- How few chunks tasks can read.
use Rattle.std.proofs.Common.{◌≡◌, ◌∙◌, ℕ, zero, suc, ◌+◌, ◌-◌, ◌*◌, ◌/◌, ◌<◌, ◌≤◌, IsTrue, List, [], ◌∷◌, length, map, max, min, refl, ap, subst, sym, arith, ⊎_elim, le-div_iff_mul-le}
use Rattle.std.proofs.Math.Nat.{add-mul, div-mul-le_self, lt-div-mul-add, mul_assoc, mul_comm}
use Rattle.std.proofs.lemmas.Bool.{cases_lt}
use Rattle.std.proofs.Common.{Contains, replicate}
use Rattle.std.proofs.lemmas.List.{length-map}
use Rattle.std.specs.Int.NonZero.{non_zero_u64_get}
use Rattle.std.specs.List.{AllByRecursion, range_with_len, sum}
use Rattle.std.specs.declared.num.NonZeroU64.{NonZeroU64}
use Rattle.zarrs_chunk_base.specs.ArraySubset.{Box, IsBox, IsEmptyBox, lasts}
use Rattle.zarrs_chunk_base.specs.Dimension.{Dimension, Holds, IsChain, array_sizes}
use Rattle.zarrs_chunks.proofs.Chains.{earlier_has, in_chain, no_later}
use Rattle.zarrs_chunk_plan.specs.Counts.{product}
use Rattle.zarrs_chunk_plan.specs.seen.Sources.{TakesSome, met, taken, taken_from}
use Rattle.zarrs_chunk_plan.specs.Region.{EndWithin, moved}
use Rattle.zarrs_chunk_plan.proofs.MetChunks.{met_is}
use Rattle.zarrs_chunk_plan.proofs.MovedBoxes.{lies_some, within_below}
use Rattle.zarrs_chunk_plan.proofs.Plans.{empty_or_some}
use Rattle.zarrs_chunk_plan.proofs.SomePlan.{array_homes, has_cover}
use Rattle.zarrs_chunk_tasks.specs.Counts.{in_all}
use Rattle.zarrs_chunk_tasks.specs.Limits.{HasAtMost, HasPart, OfParts, ReadNoFewer, product_of_larger}
use Rattle.zarrs_chunk_tasks.specs.Tasks.{AreTasksByTarget, HasTasks}
use Rattle.zarrs_chunk_tasks.specs.declared.counts.CountsAlong.{CountsAlong}
use Rattle.zarrs_chunk_tasks.specs.declared.task.Task.{Task}
use Rattle.zarrs_chunk_tasks.specs.seen.Counts.{indices, of_group}
use Rattle.zarrs_chunk_tasks.specs.seen.Grouped.{grouped}
use Rattle.zarrs_chunk_tasks.specs.seen.Sizes.{IsSide, Side, all_counts, by_groups, chunks_by, groups_met, largest_by, sides}
use Rattle.zarrs_chunk_tasks.proofs.CountsOfEach.{Count}
use Rattle.zarrs_chunk_tasks.proofs.GroupSizes.{greatest_is, in_order, taking}
use Rattle.zarrs_chunk_tasks.proofs.Grouped.{grouped_chain, last, last_in_group}
use Rattle.zarrs_chunk_tasks.proofs.LeastCost.{times}
use Rattle.zarrs_chunk_tasks.proofs.SideCounts.{AreAsMany, are_sides, fewer_lists, lists_many}
use Rattle.zarrs_chunk_tasks.proofs.ChosenTasks.{counts}
use Rattle.zarrs_chunk_tasks.proofs.GroupBoxes.{numbers, some_chunks}
use Rattle.zarrs_chunk_tasks.proofs.GroupCounts.{none_are}
use Rattle.zarrs_chunk_tasks.proofs.TaskCounts.{counts_by_target}
use Rattle.zarrs_chunk_tasks.proofs.TaskLaws.{as_many_dimensions, region_starts}
use Rattle.zarrs_chunk_tasks.proofs.SumsAlong.{sum_more}

-- ---- one dimension

-- the chunks that hold some of a range have no more indices of it than their parts
module _ (d : Dimension) (chain : IsChain d) (start size part : ℕ) (at_most : HasAtMost part d start size) (f n : ℕ) (some : 0 < n) (from : start ≤ f)
    (up_to : f + n ≤ start + size) where
  reached : (low : ℕ) → Holds d low f → (j : ℕ) → IsTrue (d.has_chunk (low + j)) → min (d.end (low + j)) (f + n) ≤ f + (j + 1) * part
  reached low lowest zero has =
      let here : low + 0 ≡ low = omega arith in
      let last = min (d.end low) (f + n) - 1 in
      let less = at_most low f last lowest (record { chunk = lowest.chunk; from = omega (arith, lowest.from, lowest.below); below = omega (arith, lowest.below) })
      from (omega (arith, lowest.below)) (omega (arith, lowest.below, up_to))
      in
      rw here (omega (arith, less, lowest.below))
  reached low lowest (suc j) has =
      let next : low + suc j ≡ low + j + 1 = omega arith in
      let (before, gap) = chain.no_gap (low + j) (subst (λ c. IsTrue (d.has_chunk c)) next has) in
      let rest = reached low lowest j before in
      let many = add-mul (j + 1) 1 part in
      let all : suc j + 1 ≡ j + 1 + 1 = omega arith in
      ⊎_elim
      (λ (more : d.end (low + j) < f + n).
      let c = low + suc j in
      let i = d.start c in
      let begins : i ≡ d.end (low + j) = ap d.start next ∙ gap in
      let any = chain.not_empty c has in
      let last = min (d.end c) (f + n) - 1 in
      let order = (in_chain d chain low (low + j) (omega arith) before).1 in
      let less = at_most c i last (record { chunk = has; from = omega arith; below = any })
      (record { chunk = has; from = omega (arith, begins, more, any); below = omega (arith, begins, more, any) })
      (omega (arith, begins, order, lowest.below, from)) (omega (arith, begins, more, any)) (omega (arith, begins, more, any, up_to))
      in
      rw all (omega (arith, rest, less, begins, more, any, many)))
      (λ (ended : f + n ≤ d.end (low + j)). rw all (omega (arith, rest, ended, many))) (cases_lt (d.end (low + j)) (f + n))

  within_parts : (low high : ℕ) → Holds d low f → Holds d high (f + (n - 1)) → n ≤ met d f n * part
  within_parts low high lowest highest =
      let order = no_later d chain low high f (f + (n - 1)) (omega arith) lowest highest in
      let there : low + (high - low) ≡ high = omega (arith, order) in
      let all = reached low lowest (high - low) (subst (λ c. IsTrue (d.has_chunk c)) (sym there) highest.chunk) in
      let many : met d f n ≡ high - low + 1 = met_is d chain low high f n lowest highest ∙ omega (arith, order) in
      rw many (omega (arith, all, ap d.end there, highest.below))

module _ (side : Side) (is : IsSide side) (chain : IsChain side.source) (within : side.first + side.size ≤ side.source.array_size) (k : ℕ) (some : 0 < k) where
  abbrev g : Dimension
  g = grouped side.target k

  abbrev t : ℕ → ℕ
  t j = side.low / k + j

  abbrev longest : ℕ → ℕ
  longest j = taken g side.at side.size (t j)

  -- what is counted of a group in the source
  abbrev counted : Count → ℕ → ℕ
  counted count j = of_group count side.source g side.first side.at side.size (t j)

  abbrev read : ℕ → ℕ
  read = counted met

  pub takes_at : (j : ℕ) → j < groups_met side k → TakesSome g side.at side.size (t j)
  takes_at j less = taking side.target is.chain side.at side.size side.low side.high is.over k some (t j) (omega arith) (omega arith)

  -- where no group takes more than what is counted of it times a number, the range has no more indices than all that is counted times it
  module _ (count : Count) (part : ℕ) (each : (j : ℕ) → j < groups_met side k → longest j ≤ counted count j * part) where
    so_far : (j : ℕ) → j < groups_met side k
        → min (g.end (t j)) (side.at + side.size)
        ≤ taken_from g side.at (t 0) + sum (map (of_group count side.source g side.first side.at side.size) (range_with_len (side.low / k) (j + 1))) * part
    so_far zero less =
        let here : side.low / k + 0 ≡ side.low / k = omega arith in
        let one = sum_more (of_group count side.source g side.first side.at side.size) (side.low / k) 0 in
        let (_, any) = takes_at 0 less in
        rw one (omega (arith, each 0 less, any))
    so_far (suc j) less =
        let before = so_far j (omega arith) in
        let next : t (suc j) ≡ t j + 1 = omega arith in
        let steps : suc j + 1 ≡ j + 1 + 1 = omega arith in
        let place : side.low / k + (j + 1) ≡ t (suc j) = omega arith in
        let one = sum_more (of_group count side.source g side.first side.at side.size) (side.low / k) (j + 1) in
        let (has, any) = takes_at (suc j) less in
        let (_, gap) = (grouped_chain side.target k is.chain some).no_gap (t j) (subst (λ c. IsTrue (g.has_chunk c)) next has) in
        let starts : g.start (t (suc j)) ≡ g.end (t j) = ap g.start next ∙ gap in
        let here = each (suc j) less in
        let all = sum (map (of_group count side.source g side.first side.at side.size) (range_with_len (side.low / k) (j + 1))) in
        let many = add-mul all (counted count (suc j)) part in
        rw (steps, one, place) (omega (arith, before, here, starts, any, many))

    pub all_covered : side.size ≤ sum (by_groups count side k) * part
    all_covered =
        let order = in_order side.target is.chain side.at side.size side.low side.high is.over in
        let up : side.low / k ≤ side.high / k = (le-div_iff_mul-le some).1 (omega (arith, div-mul-le_self side.low k, order)) in
        let j = side.high / k - side.low / k in
        let last_is : t j ≡ side.high / k = omega (arith, up) in
        let all = so_far j (omega arith) in
        let (first_has, _) = takes_at 0 (omega arith) in
        let (last_has, _) = takes_at j (omega arith) in
        let first_here : side.low / k + 0 ≡ side.low / k = omega arith in
        let (starts, _) = in_chain side.target is.chain (side.low / k * k) side.low (div-mul-le_self side.low k) is.over.low.chunk in
        let has = subst (λ c. IsTrue (g.has_chunk c)) last_is last_has in
        let group = last_in_group side.target k is.chain (side.high / k) has in
        let reach : side.high ≤ side.high / k * k + (k - 1) = omega (arith, lt-div-mul-add {a = side.high} some) in
        let (_, ends) = in_chain side.target is.chain side.high (last side.target k (side.high / k)) (group.no_later side.high reach is.over.high.chunk) group.has in
        omega (arith, all, ap g.end last_is, ap g.start first_here, starts, ends, is.over.low.from, is.over.high.below)

  module _ (j : ℕ) (less : j < groups_met side k) where
    from : ℕ
    from = side.first + (taken_from g side.at (t j) - side.at)

    pub low_chunk : (c : ℕ) × (c < side.source.grid_size) × Holds side.source c (side.first + (taken_from g side.at (t j) - side.at))
    low_chunk = chain.reaches _ (omega (arith, (takes_at j less).1, within))

    pub high_chunk : (c : ℕ) × (c < side.source.grid_size)
        × Holds side.source c (side.first + (taken_from g side.at (t j) - side.at) + (longest j - 1))
    high_chunk = chain.reaches _ (omega (arith, (takes_at j less).1, within))

    -- each group reads a chunk
    reads_some : 0 < read j
    reads_some =
        let (low, _, lowest) = low_chunk in
        let (high, _, highest) = high_chunk in
        let many = met_is side.source chain low high (side.first + (taken_from g side.at (t j) - side.at)) (longest j) lowest highest in
        let order = no_later side.source chain low high _ _ (omega arith) lowest highest in
        omega (arith, many, order)

    reads_parts : (part : ℕ) → HasAtMost part side.source side.first side.size → longest j ≤ read j * part
    reads_parts part at_most =
        let (low, _, lowest) = low_chunk in
        let (high, _, highest) = high_chunk in
        let (_, any) = takes_at j less in
        within_parts side.source chain side.first side.size part at_most (side.first + (taken_from g side.at (t j) - side.at)) (longest j) (omega (arith, any))
        (omega arith) (omega (arith, any)) low high lowest highest

  -- the groups read a chunk each, and take no more than the longest one
  by_groups_covered : side.size ≤ chunks_by side k * largest_by side k
  by_groups_covered =
      all_covered met (largest_by side k)
      (λ j less.
      let is_longest = greatest_is (of_group indices side.source g side.first side.at side.size) (side.low / k) (groups_met side k) j less in
      let many = times 1 (read j) (largest_by side k) (largest_by side k) (reads_some j less) (omega arith) in
      omega (arith, is_longest, many))

  by_parts_covered : (part : ℕ) → HasAtMost part side.source side.first side.size → side.size ≤ chunks_by side k * part
  by_parts_covered part at_most = all_covered met part (λ j less. reads_parts j less part at_most)

  -- the longest group takes no less than any part of a chunk of the target
  part_taken : (part : ℕ) → HasPart part side.target side.at side.size → part ≤ largest_by side k
  part_taken part has =
      let c = has.chunk in
      let chunk = has.first.chunk in
      ⊎_elim (λ (any : 0 < part).
      let from = no_later side.target is.chain side.low c side.at has.index has.from is.over.low has.first in
      let to = no_later side.target is.chain c side.high (has.index + (part - 1)) (side.at + (side.size - 1)) (omega (arith, has.up_to)) has.last is.over.high in
      let up : side.low / k ≤ c / k = (le-div_iff_mul-le some).1 (omega (arith, div-mul-le_self side.low k, from)) in
      let down : c / k ≤ side.high / k = (le-div_iff_mul-le some).1 (omega (arith, div-mul-le_self c k, to)) in
      let here : side.low / k + (c / k - side.low / k) ≡ c / k = omega (arith, up) in
      let is_longest = greatest_is (of_group indices side.source g side.first side.at side.size) (side.low / k) (groups_met side k) (c / k - side.low / k)
      (omega (arith, up, down))
      in
      let begins = div-mul-le_self c k in
      let first = earlier_has side.target is.chain (c / k * k) c begins chunk in
      let group = last_in_group side.target k is.chain (c / k) first in
      let (starts, _) = in_chain side.target is.chain (c / k * k) c begins chunk in
      let (_, ends) = in_chain side.target is.chain c (last side.target k (c / k)) (group.no_later c (omega (arith, lt-div-mul-add {a = c} some)) chunk) group.has in
      let takes : part ≤ taken g side.at side.size (c / k) = omega (arith, starts, ends, has.first.from, has.last.below, has.from, has.up_to) in
      omega (arith, takes, is_longest, ap (taken g side.at side.size) here))
      (λ (none : part ≤ 0). omega arith) (cases_lt 0 part)

  pub least_along : (part other : ℕ) → HasAtMost part side.source side.first side.size → HasPart other side.target side.at side.size
      → side.size * max part other ≤ chunks_by side k * part * largest_by side k
  least_along part other at_most has =
      let reads = chunks_by side k in
      let longest = largest_by side k in
      ⊎_elim (λ (less : other < part).
      let same : max part other ≡ part = omega arith in
      let all = times side.size (reads * longest) part part by_groups_covered (omega arith) in
      let swap : reads * longest * part ≡ reads * part * longest = mul_assoc reads longest part ∙ ap (λ n. reads * n) (mul_comm longest part) ∙ sym (mul_assoc reads part longest) in
      rw same (omega (arith, all, swap)))
      (λ (le : part ≤ other).
      let same : max part other ≡ other = omega arith in
      let all = times side.size (reads * part) other longest (by_parts_covered part at_most) (part_taken other has) in
      rw same all) (cases_lt other part)

-- ---- all dimensions

pub record IsRead (side : Side) : Type 0 where
  pub chain : IsChain side.source
  pub within : side.first + side.size ≤ side.source.array_size

-- a product of four factors, by twos
pub by_twos : (a b c d : ℕ) → a * b * (c * d) ≡ a * c * (b * d)
by_twos a b c d = mul_assoc a b (c * d) ∙ ap (λ n. a * n) (sym (mul_assoc b c d) ∙ ap (λ n. n * d) (mul_comm b c) ∙ mul_assoc c b d) ∙ sym (mul_assoc a c (b * d))

pub least_reads : (source target : List Dimension) (first at shape low high : List ℕ) (each parts others : List ℕ)
    → AllByRecursion IsSide (sides source target first at shape low high) → AllByRecursion IsRead (sides source target first at shape low high)
    → AreAsMany source target first at shape low high → AllByRecursion (λ k. 0 < k) each → length each ≡ length target
    → OfParts HasAtMost source parts first shape → OfParts HasPart target others at shape
    → product shape * product_of_larger parts others
    ≤ in_all (λ counts. counts.chunks_read) (all_counts (sides source target first at shape low high) each) * product parts
    * in_all (λ counts. counts.largest_task) (all_counts (sides source target first at shape low high) each)
least_reads [] [] [] [] [] [] [] [] [] [] are all_read many some long at_most has = omega arith
least_reads (s ∷ source) (d ∷ target) (f ∷ first) (a ∷ at) (n ∷ shape) (l ∷ low) (h ∷ high) (k ∷ each) (p ∷ parts) (q ∷ others) are all_read many some long at_most has =
    let all = sides source target first at shape low high in
    let rest = least_reads source target first at shape low high each parts others are.1 all_read.1 (fewer_lists many) some.1 (omega arith) at_most.1 has.1 in
    let side : Side = record { source = s; target = d; first = f; at = a; size = n; low = l; high = h } in
    let here = least_along side are.0 all_read.0.chain all_read.0.within k some.0 p q at_most.0 has.0 in
    let reads = in_all (λ counts. counts.chunks_read) (all_counts all each) in
    let longest = in_all (λ counts. counts.largest_task) (all_counts all each) in
    let both = times (n * max p q) (chunks_by side k * p * largest_by side k) (product shape * product_of_larger parts others) (reads * product parts * longest) here rest in
    let left = by_twos n (product shape) (max p q) (product_of_larger parts others) in
    let right : chunks_by side k * p * largest_by side k * (reads * product parts * longest) ≡ chunks_by side k * reads * (p * product parts) * (largest_by side k * longest) =
    by_twos (chunks_by side k * p) (largest_by side k) (reads * product parts) longest ∙ ap (λ m. m * (largest_by side k * longest)) (by_twos (chunks_by side k) p reads (product parts))
    in
    omega (arith, both, left, right)
least_reads _ _ _ _ _ _ _ _ _ _ are all_read many some long at_most has =
    absurd (first_of (assumption, omega (arith, long, many.source_many, many.first_many, many.at_many, many.shape_many, many.low_many, many.high_many)))

-- ---- tasks

pub all_read : (source target : List Dimension) (first at shape low high : List ℕ) → AllByRecursion IsChain source → EndWithin first shape (array_sizes source)
    → AllByRecursion IsRead (sides source target first at shape low high)
all_read (s ∷ source) (t ∷ target) (f ∷ first) (a ∷ at) (n ∷ shape) (l ∷ low) (h ∷ high) chains lies =
    (record { chain = chains.0; within = lies.0 }, all_read source target first at shape low high chains.1 lies.1)
all_read _ _ _ _ _ _ _ chains lies = tt

nothing_copied : (shape : List ℕ) → Contains shape 0 → product shape ≡ 0
nothing_copied [] (k, within, _) = absurd (omega arith)
nothing_copied (n ∷ shape) (zero, within, is) = let none : n ≡ 0 = is in rw none (omega arith)
nothing_copied (n ∷ shape) (suc k, within, is) = let rest = nothing_copied shape (k, omega arith, is) in rw rest (omega arith)

module _ (source target : List Dimension) (region : Box) (at : List ℕ) (each : List NonZeroU64)
    (has : HasTasks (array_sizes source) (array_sizes target) region at (numbers each)) (source_chains : AllByRecursion IsChain source)
    (target_chains : AllByRecursion IsChain target) (is_region : IsBox region) (is_moved : IsBox (moved at region)) (tasks : List Task)
    (are : AreTasksByTarget target (numbers each) region at tasks) (parts others : List ℕ) (at_most : OfParts HasAtMost source parts region.start region.shape)
    (has_part : OfParts HasPart target others at region.shape) where
  same_many : length source ≡ length target
  same_many = as_many_dimensions source target region at (numbers each) has

  each_many : length each ≡ length source
  each_many = sym (length-map each non_zero_u64_get) ∙ has.lengths ∙ length-map source (λ (d : Dimension). d.array_size)

  none_read : IsEmptyBox region → ReadNoFewer source target region.shape parts others tasks
  none_read empty =
      let zeros : CountsAlong = record { tasks = 0; largest_task = 0; chunks_read = 0; elements_decoded = 0; chunks_written = 0 } in
      let some = lies_some target (moved at region) has.can.in_target empty in
      let counts = none_are source target target (numbers each) (moved at region) are.groups region.start at zeros (length target) empty refl some are.is_box are.named
      (record { tasks = refl; largest_task = refl; chunks_read = refl; elements_decoded = refl; chunks_written = refl })
      in
      record {
        counts = replicate (length target) zeros;
        are_counts = counts_by_target source target region at each has source_chains target_chains is_region is_moved tasks _ are counts;
        no_fewer = rw (nothing_copied region.shape empty) (omega arith);
      }

  some_read : (¬ IsEmptyBox region) → ReadNoFewer source target region.shape parts others tasks
  some_read some =
      let elements = moved at region in
      let (cover, is) = has_cover target target_chains elements is_moved some
      (array_homes target target_chains elements (λ index inside. within_below at region.shape (array_sizes target) index has.can.in_target inside))
      in
      let first_many = region_starts source target region at (numbers each) has tasks ∙ length-map source (λ (d : Dimension). d.array_size) ∙ same_many in
      let many = each_many ∙ same_many in
      let lists = lists_many source target each elements cover region.start target_chains many is_moved some has.can.in_target is same_many first_many in
      record {
        counts = all_counts (sides source target region.start at region.shape cover.start (lasts cover.start cover.shape)) (numbers each);
        are_counts = counts source target region at has.can source_chains target_chains is_region is_moved some cover is each each_many tasks are;
        no_fewer =
            least_reads source target region.start at region.shape cover.start (lasts cover.start cover.shape) (numbers each) parts others
            (are_sides source target each elements cover region.start target_chains many is_moved some has.can.in_target is same_many first_many)
            (all_read source target region.start at region.shape cover.start (lasts cover.start cover.shape) source_chains has.can.in_source) lists
            (some_chunks each) (length-map each non_zero_u64_get ∙ many) at_most has_part;
      }

  pub read_no_fewer : ReadNoFewer source target region.shape parts others tasks
  read_no_fewer = ⊎_elim none_read some_read (empty_or_some region.shape)
