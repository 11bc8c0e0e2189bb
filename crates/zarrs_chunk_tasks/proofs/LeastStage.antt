-- What the tasks of a copy cost at least, whatever numbers of chunks they take.
use Rattle.std.proofs.Common.{◌≡◌, ◌∙◌, ◌↔◌, ℕ, zero, suc, ◌+◌, ◌-◌, ◌*◌, ◌/◌, ◌<◌, ◌≤◌, ◌⊎◌, IsTrue, List, [], ◌∷◌, ◌++◌, length, map, max, min, refl, ap, subst, sym}
use Rattle.std.proofs.Common.{arith, le-div_iff_mul-le, slice_index_or, take, ⊎_elim}
use Rattle.std.proofs.Math.Nat.{add-mul, div-mul-le_self, lt-div-mul-add, mul_assoc}
use Rattle.std.proofs.lemmas.Bool.{cases_lt}
use Rattle.std.proofs.lemmas.List.{length-map, map-append, take_all}
use Rattle.std.specs.Int.{div_ceil}
use Rattle.std.specs.Int.NonZero.{non_zero_u64_get}
use Rattle.std.specs.List.{AllByRecursion, Contains, range_with_len, sum}
use Rattle.std.specs.declared.num.NonZeroU64.{NonZeroU64}
use Rattle.zarrs_chunk_base.specs.ArraySubset.{Box, IsBox, IsEmptyBox, lasts}
use Rattle.zarrs_chunk_base.specs.Dimension.{Dimension, HasEdge, Holds, IsChain, array_sizes}
use Rattle.zarrs_chunk_base.specs.Greatest.{greatest}
use Rattle.zarrs_chunk_axes.specs.Along.{Along, IsRange, IsRegular}
use Rattle.zarrs_chunk_axes.specs.lemmas.Multiples.{ceil_least}
use Rattle.zarrs_chunks.specs.Subsets.{IsCover}
use Rattle.zarrs_chunks.proofs.Chains.{apart, at_most_start, earlier_has, in_chain, no_later}
use Rattle.zarrs_chunk_plan.specs.Counts.{product}
use Rattle.zarrs_chunk_plan.specs.Region.{CanBeMoved, EndWithin, moved}
use Rattle.zarrs_chunk_plan.specs.seen.Sources.{TakesSome, met, taken, taken_from}
use Rattle.zarrs_chunk_plan.specs.seen.Used.{HoldsSome}
use Rattle.zarrs_chunk_plan.proofs.MetChunks.{met_is}
use Rattle.zarrs_chunk_plan.proofs.MovedBoxes.{within_below, within_long, within_starts}
use Rattle.zarrs_chunk_plan.proofs.SomePlan.{array_homes, has_cover}
use Rattle.zarrs_chunk_tasks.specs.Cheapest.{IsCost, IsLargestChunk, IsLargestOfBoth}
use Rattle.zarrs_chunk_tasks.specs.Counts.{greatest_of_128, in_all}
use Rattle.zarrs_chunk_tasks.specs.Limits.{HasPart}
use Rattle.zarrs_chunk_tasks.specs.Stages.{CostAtLeast, Fit, NoneFit}
use Rattle.zarrs_chunk_tasks.specs.declared.counts.CountsAlong.{CountsAlong}
use Rattle.zarrs_chunk_tasks.specs.declared.least.Limits.{Limits}
use Rattle.zarrs_chunk_tasks.specs.declared.least.LimitsAlong.{LimitsAlong}
use Rattle.zarrs_chunk_tasks.specs.declared.task.Task.{Task}
use Rattle.zarrs_chunk_tasks.specs.seen.Counts.{of_group, whole}
use Rattle.zarrs_chunk_tasks.specs.seen.Grouped.{grouped}
use Rattle.zarrs_chunk_tasks.specs.seen.LargestChunk.{IsLongestOf}
use Rattle.zarrs_chunk_tasks.specs.seen.Least.{AreEnough, AreLimits, AreLimitsAlong, AreLimitsOf, AreNoShorter, HasAtLeast, HasLimits, cost_of_reads, of_all}
use Rattle.zarrs_chunk_tasks.specs.seen.Sizes.{IsSide, Side, all_counts, chunks_by, elements_by, groups_met, largest_by, sides}
use Rattle.zarrs_chunk_tasks.proofs.ChosenTasks.{cost_by, costs, fits_in_room, longest_by, longest_fits}
use Rattle.zarrs_chunk_tasks.proofs.GroupBoxes.{numbers, some_chunks}
use Rattle.zarrs_chunk_tasks.proofs.GroupCounts.{lies_at}
use Rattle.zarrs_chunk_tasks.proofs.GroupSizes.{greatest_is, in_order, longest_takes, taking}
use Rattle.zarrs_chunk_tasks.proofs.Grouped.{grouped_chain, last as last_of_group, last_in_group}
use Rattle.zarrs_chunk_tasks.proofs.LargestChunk.{edge_before, product_more}
use Rattle.zarrs_chunk_tasks.proofs.LeastCost.{times}
use Rattle.zarrs_chunk_tasks.proofs.LeastReads.{IsRead, all_covered, all_read, by_twos, high_chunk, least_along, low_chunk, takes_at}
use Rattle.zarrs_chunk_tasks.proofs.SideCounts.{AreAsMany, are_sides, fewer_lists, lists_many}
use Rattle.zarrs_chunk_tasks.proofs.SumsAlong.{sum_more, whole_is}
use Rattle.zarrs_chunk_tasks.proofs.TaskLaws.{as_many_dimensions}

-- ---- the chunks that hold some of a range of one dimension

module _ (d : Dimension) (chain : IsChain d) (low high f n : ℕ) (some : 0 < n) (lowest : Holds d low f) (highest : Holds d high (f + (n - 1))) where
  -- have all its indices
  pub have_all : n ≤ whole d f n
  have_all = rw (whole_is d chain low high f n lowest highest) (omega (arith, some, lowest.from, highest.below))

  module _ (edge start size : ℕ) (at_least : HasAtLeast edge d start size) (from : start ≤ f) (up_to : f + n ≤ start + size) where
    so_long : (j : ℕ) → IsTrue (d.has_chunk (low + j)) → d.start (low + j) ≤ f + (n - 1) → d.start low + (j + 1) * edge ≤ d.end (low + j)
    so_long zero has begins =
        let here : low + 0 ≡ low = omega arith in
        let first = at_least low f lowest from (omega (arith, some, up_to)) in
        rw here (omega (arith, first))
    so_long (suc j) has begins =
        let next : low + suc j ≡ low + j + 1 = omega arith in
        let (before, gap) = chain.no_gap (low + j) (subst (λ c. IsTrue (d.has_chunk c)) next has) in
        let starts : d.start (low + suc j) ≡ d.end (low + j) = ap d.start next ∙ gap in
        let rest = so_long j before (omega (arith, chain.not_empty (low + j) before, starts, begins)) in
        let (_, later) = in_chain d chain low (low + j) (omega arith) before in
        let c = low + suc j in
        let more = at_least c (d.start c) (record { chunk = has; from = omega arith; below = chain.not_empty c has })
        (omega (arith, starts, later, lowest.below, from)) (omega (arith, begins, up_to, some))
        in
        let many = add-mul (j + 1) 1 edge in
        let all : suc j + 1 ≡ j + 1 + 1 = omega arith in
        rw all (omega (arith, rest, starts, more, many))

    -- each of them has no fewer elements than the shortest one
    pub each_is_long : met d f n * edge ≤ whole d f n
    each_is_long =
        let order = no_later d chain low high f (f + (n - 1)) (omega arith) lowest highest in
        let there : low + (high - low) ≡ high = omega (arith, order) in
        let all = rw there at (so_long (high - low) (subst (λ c. IsTrue (d.has_chunk c)) (sym there) highest.chunk)
        (subst (λ c. d.start c ≤ f + (n - 1)) (sym there) highest.from)) in
        let many : met d f n ≡ high - low + 1 = met_is d chain low high f n lowest highest ∙ omega (arith, order) in
        rw (many, whole_is d chain low high f n lowest highest) (omega (arith, all))

-- the next index lies in the same chunk or in the next one
next_home : (d : Dimension) → IsChain d → (c next i : ℕ) → Holds d c i → Holds d next (i + 1) → next ≤ c + 1
next_home d chain c next i here there =
    ⊎_elim
    (λ (past : c + 1 < next).
    let has = earlier_has d chain (c + 1) next (omega arith) there.chunk in
    let (_, gap) = chain.no_gap c has in
    let any = chain.not_empty (c + 1) has in
    let before = apart d chain (c + 1) next past there.chunk in
    absurd (omega (arith, gap, any, before, here.below, there.from)))
    (λ (le : next ≤ c + 1). le) (cases_lt (c + 1) next)

-- Ranges that follow one another meet no fewer chunks than they do together, each of them by itself.
module _ (s : Dimension) (chain : IsChain s) (from many f : ℕ → ℕ) (begin last : ℕ) (f_is : (j : ℕ) → f (begin + j) ≡ met s (from j) (many j))
    (some : (j : ℕ) → j ≤ last → 0 < many j) (follows : (j : ℕ) → suc j ≤ last → from (suc j) ≡ from j + many j)
    (within : (j : ℕ) → j ≤ last → from j + many j ≤ s.array_size) (low : ℕ) (lowest : Holds s low (from 0)) where
  reads_to : (j : ℕ) → j ≤ last → (c : ℕ) → Holds s c (from j + (many j - 1)) → suc c - low ≤ sum (map f (range_with_len begin (j + 1)))
  reads_to zero le c here =
      let one = sum_more f begin 0 in
      rw one (omega (arith, f_is 0, met_is s chain low c (from 0) (many 0) lowest here))
  reads_to (suc j) le c here =
      let steps : suc j + 1 ≡ j + 1 + 1 = omega arith in
      let place : begin + (j + 1) ≡ begin + suc j = omega arith in
      let one = sum_more f begin (j + 1) in
      let (before, _, before_here) = chain.reaches (from j + (many j - 1)) (omega (arith, within j (omega (arith, le)), some j (omega (arith, le)))) in
      let (next, _, next_here) = chain.reaches (from (suc j)) (omega (arith, within (suc j) le, some (suc j) le)) in
      let rest = reads_to j (omega (arith, le)) before before_here in
      let begins : from (suc j) ≡ from j + (many j - 1) + 1 = omega (arith, follows j le, some j (omega (arith, le))) in
      let step = next_home s chain before next (from j + (many j - 1)) before_here (subst (Holds s next) begins next_here) in
      let here_is = met_is s chain next c (from (suc j)) (many (suc j)) next_here here in
      rw (steps, one, place) (omega (arith, rest, step, f_is (suc j), here_is))

-- what is no more of each of some numbers is no more of all
one_under : (f g : ℕ → ℕ) (edge begin many : ℕ) → sum (map f (range_with_len begin many)) * edge ≤ sum (map g (range_with_len begin many))
    → f (begin + many) * edge ≤ g (begin + many)
    → sum (map f (range_with_len begin (many + 1))) * edge ≤ sum (map g (range_with_len begin (many + 1)))
one_under f g edge begin many rest here =
    let both = add-mul (sum (map f (range_with_len begin many))) (f (begin + many)) edge in
    rw (sum_more f begin many, sum_more g begin many) (omega (arith, rest, here, both))

sum_under : (f g : ℕ → ℕ) (edge begin many : ℕ) → ((j : ℕ) → j < many → f (begin + j) * edge ≤ g (begin + j))
    → sum (map f (range_with_len begin many)) * edge ≤ sum (map g (range_with_len begin many))
sum_under f g edge begin zero each = omega arith
sum_under f g edge begin (suc many) each =
    let one : many + 1 ≡ suc many = omega arith in
    rw one at (one_under f g edge begin many (sum_under f g edge begin many (λ j less. each j (omega arith))) (each many (omega arith)))

-- ---- the groups of one dimension

module _ (side : Side) (is : IsSide side) (read : IsRead side) (k : ℕ) (some : 0 < k) where
  abbrev g : Dimension
  g = grouped side.target k

  abbrev counted : (Dimension → ℕ → ℕ → ℕ) → ℕ → ℕ
  counted count j = of_group count side.source g side.first side.at side.size (side.low / k + j)

  -- what they read are together the chunks that have some of the range
  pub all_read_once : met side.source side.first side.size ≤ chunks_by side k
  all_read_once =
      let at = side.at in
      let size = side.size in
      let over = is.over in
      let last = side.high / k - side.low / k in
      let up : side.low / k ≤ side.high / k = (le-div_iff_mul-le some).1 (omega (arith, div-mul-le_self side.low k, in_order side.target is.chain at size side.low side.high over)) in
      let last_is : side.low / k + last ≡ side.high / k = omega (arith, up) in
      let first_is : side.low / k + 0 ≡ side.low / k = omega arith in
      let takes : (j : ℕ) → j ≤ last → TakesSome g at size (side.low / k + j) = λ j le. takes_at side is read.chain read.within k some j (omega (arith, le)) in
      let (last_has, last_some) = takes last (omega arith) in
      let (_, first_some) = takes 0 (omega arith) in
      let (starts, _) = in_chain side.target is.chain (side.low / k * k) side.low (div-mul-le_self side.low k) over.low.chunk in
      let group = last_in_group side.target k is.chain (side.high / k) (subst (λ c. IsTrue (g.has_chunk c)) last_is last_has) in
      let reach : side.high ≤ side.high / k * k + (k - 1) = omega (arith, lt-div-mul-add {a = side.high} some) in
      let (_, ends) = in_chain side.target is.chain side.high (last_of_group side.target k (side.high / k)) (group.no_later side.high reach over.high.chunk) group.has in
      let begins : side.first + (taken_from g at (side.low / k + 0) - at) ≡ side.first = omega (arith, ap g.start first_is, starts, over.low.from) in
      let finishes : side.first + (taken_from g at (side.low / k + last) - at) + (taken g at size (side.low / k + last) - 1) ≡ side.first + (size - 1) =
      omega (arith, ap g.end last_is, ends, over.high.below, last_some) in
      let (low, _, lowest) = read.chain.reaches side.first (omega (arith, read.within, over.some)) in
      let (high, _, highest) = read.chain.reaches (side.first + (size - 1)) (omega (arith, read.within, over.some)) in
      let all = reads_to side.source read.chain (λ j. side.first + (taken_from g at (side.low / k + j) - at)) (λ j. taken g at size (side.low / k + j))
      (of_group met side.source g side.first at size) (side.low / k) last (λ j. refl)
      (λ j le. let (_, any) = takes j le in omega (arith, any))
      (λ j le.
      let (has, any) = takes (suc j) le in
      let (_, before) = takes j (omega (arith, le)) in
      let next : side.low / k + suc j ≡ side.low / k + j + 1 = omega arith in
      let (_, gap) = (grouped_chain side.target k is.chain some).no_gap (side.low / k + j) (subst (λ c. IsTrue (g.has_chunk c)) next has) in
      let start_is : g.start (side.low / k + suc j) ≡ g.end (side.low / k + j) = ap g.start next ∙ gap in
      omega (arith, start_is, any, before))
      (λ j le. let (_, any) = takes j le in omega (arith, any, read.within))
      low (subst (Holds side.source low) (sym begins) lowest) last (omega arith) high (subst (Holds side.source high) (sym finishes) highest)
      in
      omega (arith, all, met_is side.source read.chain low high side.first size lowest highest)

  -- each group decodes what it takes
  pub elements_covered : side.size ≤ elements_by side k
  elements_covered =
      let all = all_covered side is read.chain read.within k some whole 1
      (λ j less.
      let (low, _, lowest) = low_chunk side is read.chain read.within k some j less in
      let (high, _, highest) = high_chunk side is read.chain read.within k some j less in
      let (_, any) = takes_at side is read.chain read.within k some j less in
      let decoded = have_all side.source read.chain low high _ _ (omega (arith, any)) lowest highest in
      omega (arith, decoded))
      in
      omega (arith, all)

  -- and each chunk that it reads
  pub reads_decode : (edge : ℕ) → HasAtLeast edge side.source side.first side.size → chunks_by side k * edge ≤ elements_by side k
  reads_decode edge at_least =
      sum_under (of_group met side.source g side.first side.at side.size) (of_group whole side.source g side.first side.at side.size) edge (side.low / k)
      (groups_met side k)
      (λ j less.
      let (low, _, lowest) = low_chunk side is read.chain read.within k some j less in
      let (high, _, highest) = high_chunk side is read.chain read.within k some j less in
      let (_, any) = takes_at side is read.chain read.within k some j less in
      each_is_long side.source read.chain low high _ _ (omega (arith, any)) lowest highest edge side.first side.size at_least (omega arith) (omega (arith, any)))

-- ---- all dimensions

-- what is counted of tasks is within the limits
pub record AreWithin (all : List LimitsAlong) (counts : List CountsAlong) : Type 0 where
  pub chunks : of_all (λ along. along.chunks) all ≤ in_all (λ c. c.chunks_read) counts
  pub room : of_all (λ along. along.size) all * of_all (λ along. along.larger) all
      ≤ in_all (λ c. c.chunks_read) counts * of_all (λ along. along.longest) all * in_all (λ c. c.largest_task) counts
  pub elements : of_all (λ along. along.size) all ≤ in_all (λ c. c.elements_decoded) counts
  pub decoded : in_all (λ c. c.chunks_read) counts * of_all (λ along. along.shortest) all ≤ in_all (λ c. c.elements_decoded) counts

pub are_within : (source target : List Dimension) (first at shape low high each : List ℕ) (all : List LimitsAlong)
    → AllByRecursion IsSide (sides source target first at shape low high) → AllByRecursion IsRead (sides source target first at shape low high)
    → AreAsMany source target first at shape low high → AllByRecursion (λ k. 0 < k) each → length each ≡ length target
    → AreLimits source target first at shape all
    → AreWithin all (all_counts (sides source target first at shape low high) each)
are_within [] [] [] [] [] [] [] [] [] are all_read many some long limits =
    record { chunks = omega arith; room = omega arith; elements = omega arith; decoded = omega arith }
are_within (s ∷ source) (d ∷ target) (f ∷ first) (a ∷ at) (n ∷ shape) (l ∷ low) (h ∷ high) (k ∷ each) (along ∷ all) are all_read many some long limits =
    let rest = are_within source target first at shape low high each all are.1 all_read.1 (fewer_lists many) some.1 (omega arith) limits.1 in
    let side : Side = record { source = s; target = d; first = f; at = a; size = n; low = l; high = h } in
    let read = all_read.0 in
    let here = limits.0 in
    let reads = chunks_by side k in
    let decoded = elements_by side k in
    let longest = largest_by side k in
    let counts = all_counts (sides source target first at shape low high) each in
    let all_reads = in_all (λ c. c.chunks_read) counts in
    let all_decoded = in_all (λ c. c.elements_decoded) counts in
    let all_longest = in_all (λ c. c.largest_task) counts in
    let fewest : along.chunks ≤ reads = rw here.chunks (all_read_once side are.0 read k some.0) in
    let least = least_along side are.0 read.chain read.within k some.0 along.longest here.part here.longest here.has_part in
    let sizes = of_all (λ along. along.size) all in
    let larger = of_all (λ along. along.larger) all in
    let parts = of_all (λ along. along.longest) all in
    let shortest = of_all (λ along. along.shortest) all in
    let least_here : along.size * along.larger ≤ reads * along.longest * longest = rw (here.size_is, here.larger) least in
    let left = by_twos along.size sizes along.larger larger in
    let right : reads * along.longest * longest * (all_reads * parts * all_longest) ≡ reads * all_reads * (along.longest * parts) * (longest * all_longest) =
    by_twos (reads * along.longest) longest (all_reads * parts) all_longest ∙ ap (λ m. m * (longest * all_longest)) (by_twos reads along.longest all_reads parts)
    in
    record {
      chunks = times along.chunks reads (of_all (λ x. x.chunks) all) all_reads fewest rest.chunks;
      room = omega (
        arith,
        times (along.size * along.larger) (reads * along.longest * longest) (sizes * larger) (all_reads * parts * all_longest) least_here rest.room,
        left,
        right,
      );
      elements = rw here.size_is (times n decoded sizes all_decoded (elements_covered side are.0 read k some.0) rest.elements);
      decoded = omega (
        arith,
        by_twos reads all_reads along.shortest shortest,
        times (reads * along.shortest) decoded (all_reads * shortest) all_decoded (reads_decode side are.0 read k some.0 along.shortest here.shortest) rest.decoded,
      );
    }
are_within _ _ _ _ _ _ _ _ _ are all_read many some long limits =
    absurd (first_of (assumption, omega (arith, long, many.source_many, many.first_many, many.at_many, many.shape_many, many.low_many, many.high_many)))

some_longest : (all : List Side) (each : List ℕ) → AllByRecursion IsSide all → AllByRecursion (λ k. 0 < k) each → 0 < longest_by (all_counts all each)
some_longest (side ∷ all) (k ∷ each) are some =
    let longest = longest_takes side k (taking side.target are.0.chain side.at side.size side.low side.high are.0.over k some.0) in
    times 1 (largest_by side k) 1 (longest_by (all_counts all each)) longest (some_longest all each are.1 some.1)
some_longest [] [] are some = omega arith
some_longest [] (_ ∷ _) are some = omega arith
some_longest (_ ∷ _) [] are some = omega arith

-- ---- tasks

module _ (source target : List Dimension) (region : Box) (at : List ℕ) (can : CanBeMoved (array_sizes source) (array_sizes target) region at)
    (source_chains : AllByRecursion IsChain source) (target_chains : AllByRecursion IsChain target) (is_region : IsBox region) (is_moved : IsBox (moved at region))
    (some : ¬ IsEmptyBox region) (most largest room : ℕ) (is_largest : IsLargestOfBoth source target region at largest)
    (fits_room : (n : ℕ) → 0 < n → (n ≤ room) ↔ (n + largest ≤ most)) where
  same_many : length source ≡ length target
  same_many = as_many_dimensions source target region at (array_sizes source) (record { lengths = refl; can = can })

  first_many : length region.start ≡ length target
  first_many = within_starts region.start region.shape (array_sizes source) can.in_source ∙ length-map source (λ (d : Dimension). d.array_size) ∙ same_many

  has : (cover : Box) × IsCover target (moved at region) cover
  has =
      has_cover target target_chains (moved at region) is_moved some
      (array_homes target target_chains (moved at region) (λ index inside. within_below at region.shape (array_sizes target) index can.in_target inside))

  -- the counts of tasks that fit
  record AreCounted (each : List NonZeroU64) (tasks : List Task) (counts : List CountsAlong) : Type 0 where
    costs_are : (worth : ℕ) → IsCost source worth tasks (cost_by worth counts)
    any : 0 < longest_by counts
    in_room : longest_by counts ≤ room
    within : (all : List LimitsAlong) → AreLimits source target region.start at region.shape all → AreWithin all counts

  counts_of_fit : (each : List NonZeroU64) (tasks : List Task) → Fit source target region at most each tasks → (counts : List CountsAlong) × AreCounted each tasks counts
  counts_of_fit each tasks fit =
      let (cover, is) = has in
      let many : length each ≡ length target = fit.long ∙ same_many in
      let low = cover.start in
      let high = lasts cover.start cover.shape in
      let all = sides source target region.start at region.shape low high in
      let counts = all_counts all (numbers each) in
      let are = are_sides source target each (moved at region) cover region.start target_chains many is_moved some can.in_target is same_many first_many in
      let lists = lists_many source target each (moved at region) cover region.start target_chains many is_moved some can.in_target is same_many first_many in
      let any = some_longest all (numbers each) are (some_chunks each) in
      let up_to = longest_fits source target region at can source_chains target_chains is_region is_moved some cover is each fit.long tasks fit.are_tasks largest most
      any (fit.hold largest is_largest)
      in (
        counts,
        record {
          costs_are = costs source target region at can source_chains target_chains is_region is_moved some cover is each fit.long tasks fit.are_tasks;
          any = any;
          in_room = (fits_room (longest_by counts) any).1 up_to;
          within = λ limits of.
              are_within source target region.start at region.shape low high (numbers each) limits are
              (all_read source target region.start at region.shape low high source_chains can.in_source) lists (some_chunks each)
              (length-map each non_zero_u64_get ∙ many) of;
        },
      )

  pub none_fit : room ≡ 0 → NoneFit source target region at most
  none_fit none each tasks fit = let (counts, is) = counts_of_fit each tasks fit in omega (arith, none, is.any, is.in_room)

  pub cost_at_least : (all : List LimitsAlong) → AreLimits source target region.start at region.shape all → (worth least : ℕ)
      → ((reads : ℕ) → AreEnough all room reads → least ≤ cost_of_reads all worth reads) → CostAtLeast source target region at most worth least
  cost_at_least all limits worth least of_enough each tasks fit =
      let (counts, is) = counts_of_fit each tasks fit in
      let within = is.within all limits in
      let reads = in_all (λ c. c.chunks_read) counts in
      let parts = of_all (λ along. along.longest) all in
      let more = times (reads * parts) (reads * parts) (longest_by counts) room (omega arith) is.in_room in
      let up_to = of_enough reads (record { chunks = within.chunks; by_room = omega (arith, within.room, more) }) in
      (cost_by worth counts, is.costs_are worth, omega (arith, up_to, within.elements, within.decoded))

-- ---- what is found along one dimension

-- before the last one all chunks of a regular dimension have its edge
pub shorter_of_regular : (d : Dimension) → IsChain d → (edge : ℕ) → 0 < edge → IsRegular d edge → (first many last shortest : ℕ) → 0 < many
    → HoldsSome d (first + (many - 1)) → HasEdge d (first + (many - 1)) last → shortest ≡ min last edge → AreNoShorter first many shortest d
shorter_of_regular d chain edge some regular first many last shortest any holds is_last is c from below =
    ⊎_elim
    (λ (before : c < first + (many - 1)).
    let one = edge_before d chain edge some regular (first + (many - 1)) c holds before in omega (arith, one, some, is))
    (λ (le : first + (many - 1) ≤ c).
    let same : c ≡ first + (many - 1) = omega (arith, le, below, any) in omega (arith, ap d.start same, ap d.end same, is_last.edge, is))
    (cases_lt c (first + (many - 1)))

pub none_shorter : (d : Dimension) (first shortest : ℕ) → AreNoShorter first 0 shortest d
none_shorter d first shortest c from below = absurd (omega arith)

-- one chunk more
pub shorter_more : (d : Dimension) (first many shortest edge after : ℕ) → AreNoShorter first many shortest d → HasEdge d (first + many) edge
    → after ≡ min shortest edge → AreNoShorter first (many + 1) after d
shorter_more d first many shortest edge after before is after_is c from below =
    ⊎_elim (λ (less : c < first + many). omega (arith, before c from less, after_is))
    (λ (le : first + many ≤ c).
    let same : c ≡ first + many = omega (arith, le, below) in omega (arith, ap d.start same, ap d.end same, is.edge, after_is)) (cases_lt c (first + many))

-- the chunk of an index of a range has a part of it
pub part_is : (d : Dimension) (at size chunk start edge middle part : ℕ) → at + size ≤ greatest → at ≤ middle → middle < at + size → Holds d chunk middle
    → IsRange d chunk (start, edge) → part ≡ min (min (start + edge) greatest) (at + size) - max start at → HasPart part d at size
part_is d at size chunk start edge middle part fits from_at below_end here range is =
    let starts = range.start.start in
    let ends = range.edge.edge in
    let from = here.from in
    let below = here.below in
    record {
      chunk = chunk;
      index = max start at;
      first = record { chunk = here.chunk; from = omega (arith, starts); below = omega (arith, starts, from, below, from_at) };
      last = record {
        chunk = here.chunk;
        from = omega (arith, starts);
        below = omega (arith, starts, ends, from, below, from_at, below_end, is, fits);
      };
      from = omega arith;
      up_to = omega (arith, starts, ends, from, below, from_at, below_end, is, fits);
    }

-- the chunks from the one that holds the first index of a range to the one that holds the last
module _ (s : Dimension) (chain : IsChain s) (first size low high many : ℕ) (some : 0 < size) (fits : first + size ≤ greatest) (lowest : Holds s low first)
    (highest : Holds s high (first + (size - 1))) (many_is : many ≡ min (high - low + 1) greatest) where
  order : low ≤ high
  order = no_later s chain low high first (first + (size - 1)) (omega arith) lowest highest

  small : high < greatest
  small = omega (arith, at_most_start s chain high highest.chunk, highest.from, fits, some)

  last : low + (many - 1) ≡ high
  last = omega (arith, order, small, many_is)

  pub numbers_fit : low + many ≤ greatest
  numbers_fit = omega (arith, order, small, many_is)

  pub some_chunk : 0 < many
  some_chunk = omega (arith, many_is, small)

  pub last_holds : first + size ≤ s.array_size → HoldsSome s (low + (many - 1))
  last_holds within =
      subst (HoldsSome s) (sym last) (highest.chunk, omega (arith, highest.from, highest.below), omega (arith, highest.from, within, some))

  -- a chunk that holds an index of the range is one of them
  among : (c i : ℕ) → Holds s c i → first ≤ i → i < first + size → (low ≤ c) × (c < low + many)
  among c i here from below =
      let after = no_later s chain low c first i from lowest here in
      let before = no_later s chain c high i (first + (size - 1)) (omega (arith, below)) here highest in
      (after, omega (arith, before, last, some_chunk))

  module _ (edge : ℕ) (longest : IsLongestOf low many edge s) where
    no_longer : (c : ℕ) → low ≤ c → c < low + many → s.end c ≤ s.start c + edge
    no_longer c from below =
        let here : low + (c - low) ≡ c = omega (arith, from) in
        let is = greatest_is (λ n. s.end n - s.start n) low many (c - low) (omega (arith, from, below)) in
        omega (arith, ap s.end here, ap s.start here, is, longest)

    pub some_long : 0 < edge
    some_long = omega (arith, no_longer low (omega arith) (omega (arith, some_chunk)), lowest.from, lowest.below)

    -- the limits of the range
    pub limits_are : (t : Dimension) (at shortest part : ℕ) → AreNoShorter low many shortest s → HasPart part t at size → (along : LimitsAlong) → along.size ≡ size
        → along.longest ≡ min edge size → along.chunks ≡ many → along.shortest ≡ shortest → along.larger ≡ max along.longest part
        → AreLimitsAlong s t first at size along
    limits_are t at shortest part no_shorter has along size_is longest_is chunks_are shortest_is larger_is = record {
      size_is = size_is;
      some = any;
      longest = λ c i j has_i has_j from up_to below.
          let (after, before) = among c i has_i from (omega (arith, up_to, below)) in
          omega (arith, no_longer c after before, has_i.from, has_j.below, from, below, longest_is);
      chunks = omega (arith, chunks_are, many_is, small, order, met_is s chain low high first size lowest highest);
      shortest = λ c i here from below.
          let (after, before) = among c i here from below in
          rw shortest_is (no_shorter c after before);
      part = part;
      has_part = has;
      larger = larger_is;
    } where
      any : 0 < along.longest
      any = omega (arith, longest_is, some_long, some)

-- ---- the limits of all dimensions

pub some_at : (shape : List ℕ) (k : ℕ) → (¬ Contains shape 0) → k < length shape → 0 < slice_index_or shape k 0
some_at shape k some within =
    ⊎_elim (λ (any : 0 < slice_index_or shape k 0). any) (λ (none : slice_index_or shape k 0 ≤ 0). absurd (some (k, within, omega (arith, none))))
    (cases_lt 0 (slice_index_or shape k 0))

pub no_limits : (limits : Limits) → limits.elements ≡ 1 → limits.longest ≡ 1 → limits.chunks ≡ 1 → limits.shortest ≡ 1 → limits.larger ≡ 1 → AreLimitsOf [] limits
no_limits limits elements longest chunks shortest larger = record {
  elements = omega (arith, elements);
  chunks = omega (arith, chunks);
  shortest = omega (arith, shortest);
  larger = omega (arith, larger);
  longest = λ _. omega (arith, longest);
  some = omega (arith, longest);
}

of_more : (limit : LimitsAlong → ℕ) (all : List LimitsAlong) (along : LimitsAlong) → of_all limit (all ++ along ∷ []) ≡ of_all limit all * limit along
of_more limit all along = ap product (map-append limit all (along ∷ [])) ∙ product_more (map limit all) (limit along)

less_more : (limit : LimitsAlong → ℕ) (all : List LimitsAlong) (along : LimitsAlong) (before after : ℕ) → before ≤ of_all limit all
    → after ≡ min (before * limit along) greatest_of_128 → after ≤ of_all limit (all ++ along ∷ [])
less_more limit all along before after up_to is =
    rw (of_more limit all along) (omega (arith, is, times before (of_all limit all) (limit along) (limit along) up_to (omega arith)))

-- with those of one dimension more
pub limits_with : (all : List LimitsAlong) (along : LimitsAlong) (before after : Limits) → 0 < along.longest → AreLimitsOf all before
    → after.elements ≡ min (before.elements * along.size) greatest_of_128 → after.longest ≡ min (before.longest * along.longest) greatest_of_128
    → after.chunks ≡ min (before.chunks * along.chunks) greatest_of_128 → after.shortest ≡ min (before.shortest * along.shortest) greatest_of_128
    → after.larger ≡ min (before.larger * along.larger) greatest_of_128 → AreLimitsOf (all ++ along ∷ []) after
limits_with all along before after some are elements longest chunks shortest larger =
    let any = times 1 before.longest 1 along.longest are.some some in
    record {
      elements = less_more (λ x. x.size) all along before.elements after.elements are.elements elements;
      chunks = less_more (λ x. x.chunks) all along before.chunks after.chunks are.chunks chunks;
      shortest = less_more (λ x. x.shortest) all along before.shortest after.shortest are.shortest shortest;
      larger = less_more (λ x. x.larger) all along before.larger after.larger are.larger larger;
      longest = λ below.
          let single = times before.longest before.longest 1 along.longest (omega arith) some in
          let so_far = are.longest (omega (arith, below, longest, single)) in
          rw (of_more (λ x. x.longest) all along)
          (omega (arith, below, longest, times (of_all (λ x. x.longest) all) before.longest along.longest along.longest so_far (omega arith)));
      some = omega (arith, longest, any);
    }

-- the limits along the first dimensions, and along the next one
pub limits_more : (source target : List Dimension) (first at shape : List ℕ) (k : ℕ) (all : List LimitsAlong) (along : LimitsAlong) → length source ≡ length target
    → length first ≡ length target → length at ≡ length target → length shape ≡ length target → k < length target
    → AreLimits (take k source) (take k target) (take k first) (take k at) (take k shape) all
    → Along (λ s. Along (λ t. AreLimitsAlong s t (slice_index_or first k 0) (slice_index_or at k 0) (slice_index_or shape k 0) along) target k) source k
    → AreLimits (take (k + 1) source) (take (k + 1) target) (take (k + 1) first) (take (k + 1) at) (take (k + 1) shape) (all ++ along ∷ [])
limits_more (s ∷ source) (t ∷ target) (f ∷ first) (a ∷ at) (n ∷ shape) zero [] along e1 e2 e3 e4 within so_far here = (here, tt)
limits_more (s ∷ source) (t ∷ target) (f ∷ first) (a ∷ at) (n ∷ shape) zero (_ ∷ _) along e1 e2 e3 e4 within so_far here = absurd so_far
limits_more (s ∷ source) (t ∷ target) (f ∷ first) (a ∷ at) (n ∷ shape) (suc k) (x ∷ all) along e1 e2 e3 e4 within so_far here =
    let next : suc k + 1 ≡ suc (k + 1) = omega arith in
    rw next (so_far.0, limits_more source target first at shape k all along (omega arith) (omega arith) (omega arith) (omega arith) (omega arith) so_far.1 here)
limits_more (s ∷ source) (t ∷ target) (f ∷ first) (a ∷ at) (n ∷ shape) (suc k) [] along e1 e2 e3 e4 within so_far here = absurd so_far
limits_more _ _ _ _ _ k all along e1 e2 e3 e4 within so_far here = absurd (omega arith)

-- ---- the cost

-- what is found is no more than what tasks cost that make so many reads
module _ (all : List LimitsAlong) (limits : Limits) (room reads divisor by_room : ℕ) (some : 0 < room) (are : AreLimitsOf all limits) (enough : AreEnough all room reads)
    (divisor_is : divisor ≡ min (limits.longest * room) greatest_of_128)
    (by_room_is : (by_room ≡ 0) ⊎ ((divisor < greatest_of_128) × (by_room ≡ div_ceil (min (limits.elements * limits.larger) greatest_of_128) divisor))) where
  -- the divisor isn't cut off, so there are no fewer reads than the quotient
  not_cut : divisor < greatest_of_128 → by_room ≡ div_ceil (min (limits.elements * limits.larger) greatest_of_128) divisor → by_room ≤ reads
  not_cut below is =
      let sizes = of_all (λ x. x.size) all in
      let larger = of_all (λ x. x.larger) all in
      let longest = of_all (λ x. x.longest) all in
      let any = times 1 limits.longest 1 room are.some some in
      let single = times limits.longest limits.longest 1 room (omega arith) some in
      let up_to = times longest limits.longest room room (are.longest (omega (arith, below, divisor_is, single))) (omega arith) in
      let product_is : limits.longest * room ≡ divisor = omega (arith, below, divisor_is) in
      let all_read = times reads reads (longest * room) divisor (omega arith) (omega (arith, up_to, product_is)) in
      let copied = times limits.elements sizes limits.larger larger are.elements are.larger in
      let flat = mul_assoc reads longest room in
      rw is
      (ceil_least (min (limits.elements * limits.larger) greatest_of_128) divisor reads (omega (arith, any, product_is))
      (omega (arith, copied, enough.by_room, flat, all_read)))

  less_by_room : by_room ≤ reads
  less_by_room = ⊎_elim (λ none. omega (arith, none)) (λ (below, is). not_cut below is) by_room_is

  pub cost_is_least : (worth most_reads decoded cost : ℕ) → most_reads ≡ max limits.chunks by_room
      → decoded ≡ max limits.elements (min (most_reads * limits.shortest) greatest_of_128)
      → cost ≡ min (min (most_reads * worth) greatest_of_128 + decoded) greatest_of_128 → cost ≤ cost_of_reads all worth reads
  cost_is_least worth most_reads decoded cost reads_are decoded_is cost_is =
      let reads_less : most_reads ≤ reads = omega (arith, reads_are, less_by_room, are.chunks, enough.chunks) in
      let worth_less = times most_reads reads worth worth reads_less (omega arith) in
      let decoded_less = times most_reads reads limits.shortest (of_all (λ x. x.shortest) all) reads_less are.shortest in
      omega (arith, cost_is, decoded_is, worth_less, decoded_less, are.elements)

-- ---- a copy

pub lies_along : (ds : List Dimension) (start shape : List ℕ) (k : ℕ) → EndWithin start shape (array_sizes ds) → k < length shape
    → Along (λ d. slice_index_or start k 0 + slice_index_or shape k 0 ≤ d.array_size) ds k
lies_along ds start shape k lies within =
    lies_at ds start shape k lies (omega (arith, within, within_long start shape (array_sizes ds) lies, length-map ds (λ (d : Dimension). d.array_size)))

-- how many elements the largest chunk of those has that hold some of a box, up to the greatest number
abbrev pub IsToldOf : List Dimension → Box → (told : ℕ) → Type 0
IsToldOf ds b told = (exact : ℕ) × IsLargestChunk ds b exact × (told ≡ min greatest exact)

module _ (source target : List Dimension) (region into : Box) (can : CanBeMoved (array_sizes source) (array_sizes target) region into.start)
    (same : into.shape ≡ region.shape) (source_chains : AllByRecursion IsChain source) (target_chains : AllByRecursion IsChain target) where
  abbrev at : List ℕ
  at = into.start

  abbrev first : List ℕ
  first = region.start

  abbrev shape : List ℕ
  shape = region.shape

  target_many : length shape ≡ length target
  target_many = within_long at shape (array_sizes target) can.in_target ∙ length-map target (λ (d : Dimension). d.array_size)

  source_many : length source ≡ length target
  source_many = as_many_dimensions source target region at (array_sizes source) (record { lengths = refl; can = can })

  first_long : length first ≡ length target
  first_long = within_starts first shape (array_sizes source) can.in_source ∙ length-map source (λ (d : Dimension). d.array_size) ∙ source_many

  at_long : length at ≡ length target
  at_long = within_starts at shape (array_sizes target) can.in_target ∙ length-map target (λ (d : Dimension). d.array_size)

  -- the limits along the first dimensions
  abbrev pub HasLimitsTo : (k : ℕ) → Limits → Type 0
  HasLimitsTo k = HasLimits (take k source) (take k target) (take k first) (take k at) (take k shape)

  pub one_more : (k : ℕ) (along : LimitsAlong) (before after : Limits) → k < length shape → HasLimitsTo k before
      → Along (λ s. Along (λ t. AreLimitsAlong s t (slice_index_or first k 0) (slice_index_or at k 0) (slice_index_or shape k 0) along) target k) source k
      → ((all : List LimitsAlong) → AreLimitsOf all before → AreLimitsOf (all ++ along ∷ []) after) → HasLimitsTo (k + 1) after
  one_more k along before after within (all, limits, of) here with = (
    all ++ along ∷ [],
    limits_more source target first at shape k all along source_many first_long at_long target_many (omega (arith, within, target_many)) limits here,
    with all of,
  )

  pub all_limits : (k : ℕ) (limits : Limits) → length shape ≤ k → HasLimitsTo k limits → HasLimits source target first at shape limits
  all_limits k limits ended has_limits =
      let s = take_all k source (omega (arith, ended, target_many, source_many)) in
      let t = take_all k target (omega (arith, ended, target_many)) in
      let f = take_all k first (omega (arith, ended, target_many, first_long)) in
      let a = take_all k at (omega (arith, ended, target_many, at_long)) in
      let n = take_all k shape ended in
      rw (s, t, f, a, n) at has_limits

  module _ (is_region : IsBox region) (is_into : IsBox into) (some : ¬ IsEmptyBox region) (most read_told written_told room : ℕ) (fits : most ≤ greatest)
      (read : IsToldOf source region read_told) (written : IsToldOf target into written_told) (room_is : room ≡ most - max read_told written_told) where
    is_moved : IsBox (moved at region)
    is_moved = subst (λ sizes. IsBox (record { start = at; shape = sizes })) same is_into

    into_written : IsToldOf target (moved at region) written_told
    into_written = subst (λ sizes. IsToldOf target (record { start = at; shape = sizes }) written_told) same written

    largest_both : IsLargestOfBoth source target region at (max read.0 into_written.0)
    largest_both =
        record { read = read.0; is_read = read.1; written = into_written.0; is_written = into_written.1; greater = refl }

    fit : (n : ℕ) → 0 < n → (n ≤ room) ↔ (n + max read.0 into_written.0 ≤ most)
    fit = fits_in_room most read.0 into_written.0 read_told written_told room fits read.2 into_written.2 room_is

    pub found_none : room ≡ 0 → NoneFit source target region at most
    found_none = none_fit source target region at can source_chains target_chains is_region is_moved some most (max read.0 into_written.0) room largest_both fit

    pub found_least : (limits : Limits) → HasLimits source target first at shape limits → (worth least : ℕ)
        → ((all : List LimitsAlong) (reads : ℕ) → AreLimitsOf all limits → AreEnough all room reads → least ≤ cost_of_reads all worth reads)
        → CostAtLeast source target region at most worth least
    found_least limits (all, are, of) worth least enough =
        cost_at_least source target region at can source_chains target_chains is_region is_moved some most (max read.0 into_written.0) room largest_both fit all are
        worth least (λ reads. enough all reads of)
