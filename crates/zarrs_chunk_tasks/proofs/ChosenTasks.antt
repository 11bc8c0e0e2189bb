-- The chosen tasks are the cheapest ones that fit.
use Rattle.std.proofs.Common.{◌≡◌, ◌∙◌, ℕ, zero, suc, replicate, ◌+◌, ◌-◌, ◌*◌, ◌<◌, ◌≤◌, ◌↔◌, IsTrue, List, [], ◌∷◌, ◌++◌, None, Some, Option, Bool, IfSome, MatchOption, length, map, max, min, refl, reverse, ap, ap₂, subst, sym, arith}
use Rattle.std.proofs.lemmas.List.{length-map, map-append, reverse-append, reverse-reverse}
use Rattle.std.specs.Int.NonZero.{non_zero_u64_get}
use Rattle.std.specs.List.{AllByRecursion, AllZip}
use Rattle.std.specs.declared.num.NonZeroU64.{NonZeroU64}
use Rattle.zarrs_chunk_base.specs.ArraySubset.{Box, IsBox, IsEmptyBox, ends, lasts}
use Rattle.zarrs_chunk_base.specs.Dimension.{Dimension, IsChain, array_sizes}
use Rattle.zarrs_chunk_base.specs.Greatest.{greatest}
use Rattle.zarrs_chunks.specs.Subsets.{IsCover}
use Rattle.zarrs_chunk_plan.specs.Counts.{product}
use Rattle.zarrs_chunk_plan.specs.Region.{CanBeMoved, moved}
use Rattle.zarrs_chunk_plan.proofs.Plans.{covers_some}
use Rattle.zarrs_chunk_tasks.specs.Cheapest.{AreTasksOf, HoldAtMost, IsChosen, IsCost, IsExactIfFew, NoneFits, NoneIsCheaper, OnesAreNoCheaper, most_choices, most_sizes}
use Rattle.zarrs_chunk_tasks.specs.Counts.{AreTaskCounts, greatest_of_128, in_all}
use Rattle.zarrs_chunk_tasks.specs.Tasks.{HasTasks}
use Rattle.zarrs_chunk_tasks.specs.declared.cheapest.CheapestTasks.{CheapestTasks}
use Rattle.zarrs_chunk_tasks.specs.declared.choices.Choice.{Choice}
use Rattle.zarrs_chunk_tasks.specs.declared.counts.CountsAlong.{CountsAlong}
use Rattle.zarrs_chunk_tasks.specs.declared.sizes.Size.{Size}
use Rattle.zarrs_chunk_tasks.specs.declared.task.Task.{Task}
use Rattle.zarrs_chunk_tasks.specs.seen.Choices.{FindsCheapest, IsCheapestChoice, IsChoice, cost_of, held}
use Rattle.zarrs_chunk_tasks.specs.seen.Sizes.{AreSizes, AreTried, Side, all_counts, each_of, sides}
use Rattle.zarrs_chunk_tasks.proofs.GroupBoxes.{numbers, some_chunks}
use Rattle.zarrs_chunk_tasks.proofs.LeastCost.{HasCounts, all_fit, better, chosen_sizes, each_fits, has_counts, shortest, sum_of_costs, times}
use Rattle.zarrs_chunk_tasks.proofs.TriedSizes.{are_tried}
use Rattle.zarrs_chunk_tasks.proofs.SideCounts.{group_counts}
use Rattle.zarrs_chunk_tasks.proofs.TaskCounts.{counts_by_target}
use Rattle.zarrs_chunk_tasks.proofs.TaskLaws.{as_many_dimensions, region_starts}

map_reverse : {X Y : Type 0} (f : X → Y) (xs : List X) → map f (reverse xs) ≡ reverse (map f xs)
map_reverse f [] = refl
map_reverse f (x ∷ xs) =
    ap (map f) (reverse-append (x ∷ []) xs) ∙ map-append f (reverse xs) (x ∷ []) ∙ ap (λ ys. ys ++ f x ∷ []) (map_reverse f xs)
    ∙ sym (reverse-append (f x ∷ []) (map f xs))

min_comm : (m n : ℕ) → min m n ≡ min n m
min_comm m n = omega arith

is_some : {X : Type 0} {x : X} → Some x ≡ None → ⊥
is_some same = subst (λ o. MatchOption o ⊥ (λ _. Unit {0})) same tt

some_each : (choice : List Size) → AllByRecursion (λ k. 0 < k) (map each_of choice)
some_each [] = tt
some_each (s ∷ choice) = (s.each.ok, some_each choice)

all_ones : (ones : List NonZeroU64) (choice : List Size) → length ones ≡ length choice → AllByRecursion (λ one. non_zero_u64_get one ≡ 1) ones
    → AllByRecursion (λ (s : Size). each_of s ≡ 1) choice → numbers ones ≡ map each_of choice
all_ones [] [] many here there = refl
all_ones (k ∷ ones) (s ∷ choice) many here there =
    ap₂ (λ n ns. n ∷ ns) (here.0 ∙ sym there.0) (all_ones ones choice (omega arith) here.1 there.1)
all_ones [] (_ ∷ _) many here there = absurd (omega arith)
all_ones (_ ∷ _) [] many here there = absurd (omega arith)

-- the counts that tell what tasks cost
abbrev pub cost_by : (worth : ℕ) → List CountsAlong → ℕ
cost_by worth along = in_all (λ counts. counts.chunks_read) along * worth + in_all (λ counts. counts.elements_decoded) along

abbrev pub longest_by : List CountsAlong → ℕ
longest_by = in_all (λ counts. counts.largest_task)

module _ (source target : List Dimension) (region : Box) (at : List ℕ) (can : CanBeMoved (array_sizes source) (array_sizes target) region at)
    (source_chains : AllByRecursion IsChain source) (target_chains : AllByRecursion IsChain target) (is_region : IsBox region) (is_moved : IsBox (moved at region))
    (some : ¬ IsEmptyBox (moved at region)) (cover : Box) (is : IsCover target (moved at region) cover) where
  abbrev all : List Side
  all = sides source target region.start at region.shape cover.start (lasts cover.start cover.shape)

  has : (each : List NonZeroU64) → length each ≡ length source → HasTasks (array_sizes source) (array_sizes target) region at (numbers each)
  has each many = record {
    lengths = length-map each non_zero_u64_get ∙ many ∙ sym (length-map source (λ (d : Dimension). d.array_size));
    can = can;
  }

  same_many : length source ≡ length target
  same_many = as_many_dimensions source target region at (array_sizes source) (record { lengths = refl; can = can })

  module _ (each : List NonZeroU64) (many : length each ≡ length source) (tasks : List Task) (are : AreTasksOf source target region at each tasks) where
    abbrev along : List CountsAlong
    along = all_counts all (numbers each)

    first_many : length region.start ≡ length target
    first_many =
        region_starts source target region at (numbers each) (has each many) tasks ∙ length-map source (λ (d : Dimension). d.array_size) ∙ same_many

    -- the tasks by groups of so many chunks are counted
    pub counts : AreTaskCounts source target tasks along
    counts =
        counts_by_target source target region at each (has each many) source_chains target_chains is_region is_moved tasks along are
        (group_counts source target each (moved at region) cover region.start target_chains (many ∙ same_many) is_moved some can.in_target is same_many first_many)

    pub costs : (worth : ℕ) → IsCost source worth tasks (cost_by worth along)
    costs worth = record {
      reads = counts.reads;
      are_reads = counts.are_reads;
      cost_is = sum_of_costs worth counts.reads ∙ ap₂ (λ a b. a * worth + b) (sym counts.chunks_read) (sym counts.elements_decoded);
    }

    -- they fit if the longest buffer does, and it does if they fit
    hold : (chunk most : ℕ) → longest_by along + chunk ≤ most → HoldAtMost chunk most tasks
    hold chunk most fits = each_fits (λ (task : Task). product task.source.shape) chunk most tasks (subst (λ n. n + chunk ≤ most) counts.largest_task fits)

    pub longest_fits : (chunk most : ℕ) → 0 < longest_by along → HoldAtMost chunk most tasks → longest_by along + chunk ≤ most
    longest_fits chunk most any held_at_most =
        subst (λ n. n + chunk ≤ most) (sym counts.largest_task)
        (all_fit (λ (task : Task). product task.source.shape) chunk most tasks held_at_most (subst (λ n. 0 < n) counts.largest_task any))

  -- ---- the choice

  module _ (is_exact : Bool) (rows : List (List Size)) (all_many : length all ≡ length target) (are_sizes : AllZip (AreSizes is_exact) all rows)
      (room worth largest most : ℕ)
      (fits_room : (n : ℕ) → 0 < n → (n ≤ room) ↔ (n + largest ≤ most)) where
    abbrev tried : AllZip AreTried all rows
    tried = are_tried is_exact all rows are_sizes

    sizes_of : (choice : List Size) → IsChoice rows choice → HasCounts all choice
    sizes_of choice chosen = has_counts all choice (chosen_sizes all rows choice tried chosen)

    -- where none of the rows' choices fits, no tasks do
    pub none_fits : ((choice : List Size) → IsChoice rows choice → ¬ (held choice ≤ room)) → NoneFits source target region at largest most
    none_fits none each many tasks are fit =
        let short = shortest all rows (numbers each) tried (some_chunks each) (length-map each non_zero_u64_get ∙ many ∙ same_many ∙ sym all_many) in
        let any = (sizes_of short.choice short.is_choice).some in
        let longest = longest_by (all_counts all (numbers each)) in
        let some_longest : 0 < longest = omega (arith, any, short.short) in
        let up_to = longest_fits each many tasks are largest most some_longest fit in
        none short.choice short.is_choice (omega (arith, short.short, (fits_room longest some_longest).1 up_to))

    module _ (found : Choice) (chosen : CheapestTasks) (it : IsCheapestChoice rows room worth 1 1 None (map non_zero_u64_get found.each.items) found.cost)
        (each_is : chosen.task_chunks.items ≡ reverse found.each.items) (cost_is : chosen.cost ≡ found.cost)
        (exact : IsTrue chosen.is_exact → IsTrue is_exact) where
      abbrev each_chosen : List NonZeroU64
      each_chosen = chosen.task_chunks.items

      numbers_are : numbers each_chosen ≡ map each_of it.choice
      numbers_are =
          ap numbers each_is ∙ map_reverse non_zero_u64_get found.each.items ∙ ap reverse it.are_each ∙ reverse-reverse (map each_of it.choice)

      has_sizes : HasCounts all it.choice
      has_sizes = sizes_of it.choice it.is_choice

      chosen_long : length each_chosen ≡ length source
      chosen_long =
          sym (length-map each_chosen non_zero_u64_get) ∙ ap length numbers_are ∙ length-map it.choice each_of ∙ has_sizes.long ∙ all_many ∙ sym same_many

      longest_is : longest_by (all_counts all (numbers each_chosen)) ≡ held it.choice
      longest_is = ap (λ numbers. longest_by (all_counts all numbers)) numbers_are ∙ has_sizes.largest_is

      -- one chunk read and one element decoded before are a factor of 1
      cost_of_choice : (choice : List Size)
          → cost_of worth 1 1 choice ≡ product (map (λ (s : Size). s.chunks) choice) * worth + product (map (λ (s : Size). s.elements) choice)
      cost_of_choice choice =
          let c = product (map (λ (s : Size). s.chunks) choice) in
          let one : 1 * c ≡ c = omega arith in
          rw one (omega arith)

      told_cost : chosen.cost ≡ min (cost_by worth (all_counts all (numbers each_chosen))) greatest_of_128
      told_cost =
          cost_is ∙ it.cost_is ∙ ap (min greatest_of_128) (cost_of_choice it.choice
          ∙ ap₂ (λ a b. a * worth + b) (sym has_sizes.chunks_are) (sym has_sizes.elements_are)
          ∙ ap (λ numbers. cost_by worth (all_counts all numbers)) (sym numbers_are)) ∙ min_comm _ _

      none_cheaper : IsTrue chosen.is_exact → NoneIsCheaper source target region at largest most worth chosen.cost
      none_cheaper told each many tasks are fit =
          let along = all_counts all (numbers each) in
          let best = better is_exact all rows (numbers each) (exact told) are_sizes (some_chunks each) (length-map each non_zero_u64_get ∙ many ∙ same_many ∙ sym all_many) in
          let any = (sizes_of best.choice best.is_choice).some in
          let longest = longest_by along in
          let some_longest : 0 < longest = omega (arith, any, best.short) in
          let up_to = longest_fits each many tasks are largest most some_longest fit in
          let fits : held best.choice ≤ room = omega (arith, best.short, (fits_room longest some_longest).1 up_to) in
          let least = it.least best.choice best.is_choice fits in
          let reads = times (product (map (λ (s : Size). s.chunks) best.choice)) (in_all (λ counts. counts.chunks_read) along) worth worth best.reads (omega arith) in
          (cost_by worth along, costs each many tasks are worth, omega (arith, cost_is, least, cost_of_choice best.choice, reads, best.decodes))

      no_dearer : OnesAreNoCheaper source target region at worth chosen.cost
      no_dearer ones many each_one tasks are =
          let short = shortest all rows (map each_of it.choice) tried (some_each it.choice)
          (length-map it.choice each_of ∙ has_sizes.long) in
          let counts_are = sizes_of short.choice short.is_choice in
          let fits : held short.choice ≤ room = omega (arith, short.short, has_sizes.largest_is, it.fits) in
          let least = it.least short.choice short.is_choice fits in
          let same : numbers ones ≡ map each_of short.choice =
          all_ones ones short.choice (many ∙ same_many ∙ sym all_many ∙ sym counts_are.long) each_one short.ones
          in
          let cost : cost_by worth (all_counts all (numbers ones))
          ≡ product (map (λ (s : Size). s.chunks) short.choice) * worth + product (map (λ (s : Size). s.elements) short.choice) =
          ap (λ numbers. cost_by worth (all_counts all numbers)) same ∙ ap₂ (λ a b. a * worth + b) counts_are.chunks_are counts_are.elements_are
          in
          (cost_by worth (all_counts all (numbers ones)), costs ones many tasks are worth, omega (arith, cost_is, least, cost_of_choice short.choice, cost))

      pub chosen_is : IsChosen source target region at largest most worth chosen
      chosen_is = record {
        long = chosen_long;
        fits = λ tasks are.
            hold each_chosen chosen_long tasks are largest most
            (subst (λ n. n + largest ≤ most) (sym longest_is) ((fits_room (held it.choice) has_sizes.some).0 it.fits));
        costs = λ tasks are. (cost_by worth (all_counts all (numbers each_chosen)), costs each_chosen chosen_long tasks are worth, told_cost);
        no_dearer = no_dearer;
        cheapest = none_cheaper;
      }

    -- what is found of the rows is what is chosen
    pub choice_is : (found : Option Choice) (chosen : Option CheapestTasks) → FindsCheapest rows room worth 1 1 None found
        → (found ≡ None → chosen ≡ None)
        → IfSome found (λ choice. MatchOption chosen ⊥ (λ (cheapest : CheapestTasks).
        (cheapest.task_chunks.items ≡ reverse choice.each.items) × (cheapest.cost ≡ choice.cost)
        × (cheapest.is_exact ≡ is_exact)))
        → MatchOption chosen (NoneFits source target region at largest most) (IsChosen source target region at largest most worth)
    choice_is None None finds none put = none_fits (λ choice chosen fits. finds choice chosen fits tt)
    choice_is None (Some chosen) finds none put = absurd (is_some (none refl))
    choice_is (Some found) None finds none put = absurd put
    choice_is (Some found) (Some chosen) finds none (each_is, cost_is, same) = chosen_is found chosen finds each_is cost_is (λ told. subst IsTrue same told)

-- a buffer fits in the room if it does so together with the larger chunk
pub fits_in_room : (most read written read_told written_told room : ℕ) → most ≤ greatest → read_told ≡ min greatest read → written_told ≡ min greatest written
    → room ≡ most - max read_told written_told → (n : ℕ) → 0 < n → (n ≤ room) ↔ (n + max read written ≤ most)
fits_in_room most read written read_told written_told room fits read_is written_is room_is n some =
    (λ up_to. omega (arith, read_is, written_is, room_is, up_to), λ up_to. omega (arith, read_is, written_is, room_is, up_to))

-- ---- whether the choice is exact

pub exact_if_few : (target : List Dimension) (region : Box) (at : List ℕ) → AllByRecursion IsChain target → IsBox (moved at region)
    → (¬ IsEmptyBox (moved at region)) → (cover : Box) → IsCover target (moved at region) cover → (found : Option Choice) (chosen : Option CheapestTasks)
    (tried_all : Bool) → (found ≡ None → chosen ≡ None)
    → IfSome found (λ choice. MatchOption chosen ⊥ (λ (cheapest : CheapestTasks).
    (cheapest.task_chunks.items ≡ reverse choice.each.items) × (cheapest.cost ≡ choice.cost)
    × (cheapest.is_exact ≡ tried_all)))
    → (AllByRecursion (λ n. n ≤ most_sizes) (ends cover.start cover.shape) → product (ends cover.start cover.shape) ≤ most_choices → IsTrue tried_all)
    → IfSome chosen (IsExactIfFew target region at)
exact_if_few target region at chains is_moved some cover is None None tried_all none put few = tt
exact_if_few target region at chains is_moved some cover is None (Some chosen) tried_all none put few = absurd (is_some (none refl))
exact_if_few target region at chains is_moved some cover is (Some found) None tried_all none put few = absurd put
exact_if_few target region at chains is_moved some cover is (Some found) (Some chosen) tried_all none (_, _, is_exact) few = record {
  cover = cover;
  is_cover = covers_some target (moved at region) cover chains is_moved some is;
  exact = λ all_few up_to. subst IsTrue (sym is_exact) (few all_few up_to);
}

-- what holds of one holds of each of many of it
pub all_of_replicate : {X : Type 0} (P : X → Type 0) (n : ℕ) (x : X) → P x → AllByRecursion P (replicate n x)
all_of_replicate P zero x has = tt
all_of_replicate P (suc n) x has = (has, all_of_replicate P n x has)
