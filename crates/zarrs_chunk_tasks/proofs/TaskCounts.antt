-- The counts of groups are those of the tasks of a copy.
use Rattle.std.proofs.Common.{◌≡◌, ◌∙◌, ℕ, suc, ◌+◌, ◌≤◌, List, [], ◌∷◌, fold, length, map, max, refl, ap, ap₂, subst, sym, arith}
use Rattle.std.proofs.lemmas.List.{length-map}
use Rattle.std.specs.Int.NonZero.{non_zero_u64_get}
use Rattle.std.specs.List.{AllByRecursion, AllZip, sum}
use Rattle.std.specs.declared.num.NonZeroU64.{NonZeroU64}
use Rattle.zarrs_chunk_base.specs.ArraySubset.{Box, IsBox, IsInside}
use Rattle.zarrs_chunk_base.specs.Dimension.{Dimension, IsChain, array_sizes}
use Rattle.zarrs_chunk_base.specs.Greatest.{greatest}
use Rattle.zarrs_chunk_base.proofs.Boxes.{within_lengths}
use Rattle.zarrs_chunks.specs.Walks.{chunks_in, counted_from}
use Rattle.zarrs_chunks.proofs.ChunksInBoxes.{are_those_inside}
use Rattle.zarrs_chunk_parts.specs.Plan.{Meets}
use Rattle.zarrs_chunk_plan.specs.Counts.{product}
use Rattle.zarrs_chunk_plan.specs.Region.{EndWithin, moved, shifted}
use Rattle.zarrs_chunk_plan.specs.seen.Sources.{met, met_by, taken_box, taken_sizes, taken_starts}
use Rattle.zarrs_chunk_plan.proofs.MovedBoxes.{within_long, within_starts}
use Rattle.zarrs_chunk_plan.proofs.Plans.{all_of_each, not_empty_if_inside}
use Rattle.zarrs_chunk_plan.proofs.SameBoxes.{chunks_of_same, same_box_of}
use Rattle.zarrs_chunk_plan.proofs.TakenBoxes.{AllTakeSome, meets_take}
use Rattle.zarrs_chunk_tasks.specs.Counts.{AreMet, AreTaskCounts}
use Rattle.zarrs_chunk_tasks.specs.Groups.{HoldsSomeOf, IsBuffer}
use Rattle.zarrs_chunk_tasks.specs.Tasks.{AreTasks, AreTasksBySource, AreTasksByTarget, HasTasks, IsTask}
use Rattle.zarrs_chunk_tasks.specs.declared.counts.CountsAlong.{CountsAlong}
use Rattle.zarrs_chunk_tasks.specs.declared.task.Task.{Task}
use Rattle.zarrs_chunk_tasks.specs.seen.Counts.{AreGroupCounts, indices, of_groups_each, whole}
use Rattle.zarrs_chunk_tasks.proofs.CountsOfEach.{Count, box_is_met, map_of_map, of_ranges, shares_of}
use Rattle.zarrs_chunk_tasks.proofs.GroupBoxes.{groups, meets_as_chunk, numbers, taken_is_buffer}
use Rattle.zarrs_chunk_tasks.proofs.Grouped.{as_many_grouped}
use Rattle.zarrs_chunk_tasks.proofs.TaskLaws.{as_many_dimensions, at_starts, chunks_of_source, ends_inside, region_starts, source_long, still_within, target_long}

-- a box that lies in another one, shifted with it, is a box
shifted_is_box : (first steps sizes shape : List ℕ) → IsBox (record { start = first; shape = shape }) → EndWithin steps sizes shape
    → IsBox (record { start = counted_from first steps; shape = sizes })
shifted_is_box [] [] [] [] is_box ends = is_box
shifted_is_box (f ∷ first) (n ∷ steps) (m ∷ sizes) (k ∷ shape) is_box ends =
    let rest = shifted_is_box first steps sizes shape (record { lengths = omega (arith, is_box.lengths); fits = is_box.fits.1 }) ends.1 in
    let end : f + k ≤ greatest = is_box.fits.0 in
    record { lengths = ap suc rest.lengths; fits = (omega (arith, ends.0), rest.fits) }
shifted_is_box first steps sizes shape is_box ends =
    absurd (omega (arith, is_box.lengths, within_starts steps sizes shape ends, within_long steps sizes shape ends))

-- counted by themselves, the indices of a box are its shape
indices_are : (others : List Dimension) (start shape : List ℕ) → length others ≡ length shape → length start ≡ length shape
    → of_ranges indices others start shape ≡ shape
indices_are [] [] [] e f = refl
indices_are (d ∷ others) (a ∷ start) (n ∷ shape) e f = ap (λ ns. n ∷ ns) (indices_are others start shape (omega arith) (omega arith))
indices_are _ _ _ e f = absurd (omega arith)

module _ (ds : List Dimension) (each : List NonZeroU64) (elements : Box) (chains : AllByRecursion IsChain ds) (many : length each ≡ length ds)
    (is_box : IsBox elements) (elements_long : length elements.start ≡ length ds) where
  -- what a task fills or empties, in an array where the elements begin elsewhere
  module _ (others : List Dimension) (first : List ℕ) (other_chains : AllByRecursion IsChain others) (others_many : length others ≡ length ds)
      (first_is_box : IsBox (record { start = first; shape = elements.shape })) (first_lies : EndWithin first elements.shape (array_sizes others)) where
    abbrev counted : Count → List ℕ → ℕ
    counted count group = product (met_by (of_groups_each count others (groups ds each) first elements.start elements.shape) group)

    module _ (group : List ℕ) (behind : Box) (holds : HoldsSomeOf ds (numbers each) elements group) (behind_is_box : IsBox behind)
        (is_buffer : IsBuffer ds (numbers each) elements group (shifted elements.start behind)) where
      meets : Meets (groups ds each) elements group
      meets = (meets_as_chunk ds each chains many elements group).0 holds

      takes : AllTakeSome (groups ds each) elements.start elements.shape group
      takes = meets_take (groups ds each) elements group meets

      within : IsInside (shifted elements.start behind) holds.0
      within = (is_buffer.elements holds.0).1 (holds.1, holds.2)

      taken : shifted elements.start behind ≡ taken_box (groups ds each) elements group
      taken =
          let found = taken_is_buffer ds each chains many elements group is_box meets in
          same_box_of (shifted elements.start behind) (taken_box (groups ds each) elements group) holds.0 within
          (λ x. (λ h. (found.elements x).1 ((is_buffer.elements x).0 h), λ h. (is_buffer.elements x).1 ((found.elements x).0 h)))

      starts_are : counted_from elements.start behind.start ≡ taken_starts (groups ds each) elements.start group
      starts_are = ap (λ (b : Box). b.start) taken

      sizes_are : behind.shape ≡ taken_sizes (groups ds each) elements.start elements.shape group
      sizes_are = ap (λ (b : Box). b.shape) taken

      groups_long : length (groups ds each) ≡ length ds
      groups_long = as_many_grouped ds (numbers each) (length-map each non_zero_u64_get ∙ many)

      first_long : length first ≡ length ds
      first_long = omega (arith, first_is_box.lengths, is_box.lengths, elements_long)

      what_is : (count : Count) → of_ranges count others (counted_from first behind.start) behind.shape
          ≡ met_by (of_groups_each count others (groups ds each) first elements.start elements.shape) group
      what_is count =
          ap (of_ranges count others (counted_from first behind.start)) sizes_are
          ∙ shares_of count others (groups ds each) first behind.start elements.start elements.shape group takes (omega (arith, others_many, groups_long))
          (omega (arith, first_long, groups_long)) starts_are

      steps_long : length behind.start ≡ length elements.start
      steps_long =
          let there = within_lengths _ _ holds.0 within in
          let here = within_lengths _ _ holds.0 holds.1 in
          omega (arith, is_buffer.is_box.lengths, behind_is_box.lengths)

      ends : EndWithin behind.start behind.shape elements.shape
      ends = ends_inside elements.start behind.start behind.shape elements.shape holds.0 steps_long within (λ x inside. ((is_buffer.elements x).0 inside).0)

      pub task_is_met : AreMet others (shifted first behind) (counted met group, counted whole group)
      task_is_met =
          let is_met = box_is_met others (shifted first behind) other_chains (shifted_is_box first behind.start behind.shape elements.shape first_is_box ends)
          (not_empty_if_inside (counted_from elements.start behind.start) behind.shape holds.0 within)
          (still_within first behind.start behind.shape elements.shape (array_sizes others) ends first_lies)
          in
          rw (what_is met, what_is whole) at is_met

      pub task_size_is : product behind.shape ≡ counted indices group
      task_size_is =
          ap product (sym (indices_are others (counted_from first behind.start) behind.shape shape_long starts_long) ∙ what_is indices) where
            shape_long : length others ≡ length behind.shape
            shape_long = omega (arith, behind_is_box.lengths, steps_long, elements_long, others_many)

            starts_long : length (counted_from first behind.start) ≡ length behind.shape
            starts_long = (shifted_is_box first behind.start behind.shape elements.shape first_is_box ends).lengths

  -- ---- all tasks

  module _ (source target : List Dimension) (first at : List ℕ) (source_chains : AllByRecursion IsChain source) (target_chains : AllByRecursion IsChain target)
      (source_many : length source ≡ length ds) (target_many : length target ≡ length ds)
      (first_is_box : IsBox (record { start = first; shape = elements.shape })) (at_is_box : IsBox (record { start = at; shape = elements.shape }))
      (first_lies : EndWithin first elements.shape (array_sizes source)) (at_lies : EndWithin at elements.shape (array_sizes target)) where
    abbrev Is : List ℕ → Task → Type 0
    Is = IsTask ds (numbers each) elements first at

    -- what the tasks fill or empty in one of the arrays
    module _ (others : List Dimension) (begin : List ℕ) (chains_of : AllByRecursion IsChain others) (others_many : length others ≡ length ds)
        (begin_is_box : IsBox (record { start = begin; shape = elements.shape })) (begin_lies : EndWithin begin elements.shape (array_sizes others))
        (box_of : Task → Box) (is_box_of : (group : List ℕ) (task : Task) (is : Is group task) → box_of task ≡ shifted begin is.behind) where
      abbrev met_by_group : List ℕ → ℕ × ℕ
      met_by_group group = (
        counted others begin chains_of others_many begin_is_box begin_lies met group,
        counted others begin chains_of others_many begin_is_box begin_lies whole group,
      )

      are_met : (all : List (List ℕ)) (tasks : List Task) → AllByRecursion (HoldsSomeOf ds (numbers each) elements) all → AllZip Is all tasks
          → AllZip (λ (task : Task). AreMet others (box_of task)) tasks (map met_by_group all)
      are_met [] [] hold are = tt
      are_met (group ∷ all) (task ∷ tasks) hold are =
          let is = are.0 in (
            subst (λ b. AreMet others b (met_by_group group)) (sym (is_box_of group task is))
                (task_is_met others begin chains_of others_many begin_is_box begin_lies group is.behind hold.0 is.is_box is.buffer),
            are_met all tasks hold.1 are.1,
          )
      are_met _ _ hold are = absurd are

    abbrev read_by : List ℕ → ℕ × ℕ
    read_by =
        met_by_group source first source_chains source_many first_is_box first_lies (λ (task : Task). task.source) (λ group task is. is.source)

    abbrev written_by : List ℕ → ℕ × ℕ
    written_by = met_by_group target at target_chains target_many at_is_box at_lies (λ (task : Task). task.target) (λ group task is. is.target)

    sizes_of : (all : List (List ℕ)) (tasks : List Task) → AllByRecursion (HoldsSomeOf ds (numbers each) elements) all → AllZip Is all tasks
        → map (λ (task : Task). product task.source.shape) tasks
        ≡ map (counted source first source_chains source_many first_is_box first_lies indices) all
    sizes_of [] [] hold are = refl
    sizes_of (group ∷ all) (task ∷ tasks) hold are =
        let is = are.0 in
        ap₂ (λ n ns. n ∷ ns)
        (ap (λ (b : Box). product b.shape) is.source
        ∙ task_size_is source first source_chains source_many first_is_box first_lies group is.behind hold.0 is.is_box is.buffer)
        (sizes_of all tasks hold.1 are.1)
    sizes_of _ _ hold are = absurd are

    as_many_tasks : (all : List (List ℕ)) (tasks : List Task) → AllZip Is all tasks → length all ≡ length tasks
    as_many_tasks [] [] are = refl
    as_many_tasks (group ∷ all) (task ∷ tasks) are = ap suc (as_many_tasks all tasks are.1)
    as_many_tasks _ _ are = absurd are

    pub task_counts_are : (tasks : List Task) (along : List CountsAlong) → AreTasks ds (numbers each) elements first at tasks
        → AreGroupCounts source target ds (numbers each) elements first at along → AreTaskCounts source target tasks along
    task_counts_are tasks along are counts =
        let same = chunks_of_same are.groups counts.groups are.is_box counts.is_box
        (λ group. (
          λ inside. (counts.are_groups group).1 ((are.named group).0 inside),
          λ inside. (are.named group).1 ((counts.are_groups group).0 inside),
        ))
        in
        let all = chunks_in counts.groups in
        let are_tasks = subst (λ list. AllZip Is list tasks) same are.are_tasks in
        let hold = all_of_each (HoldsSomeOf ds (numbers each) elements) all
        (λ group among. (counts.are_groups group).0 ((are_those_inside counts.groups counts.is_box group).0 among))
        in
        record {
          tasks = counts.tasks ∙ as_many_tasks all tasks are_tasks;
          largest_task = counts.largest_task ∙ ap (fold max 0) (sym (sizes_of all tasks hold are_tasks));
          reads = map read_by all;
          are_reads = are_met source first source_chains source_many first_is_box first_lies (λ (task : Task). task.source) (λ group task is. is.source) all tasks hold
              are_tasks;
          chunks_read = counts.chunks_read ∙ ap sum (sym (map_of_map (λ (read : ℕ × ℕ). read.0) read_by all));
          elements_decoded = counts.elements_decoded ∙ ap sum (sym (map_of_map (λ (read : ℕ × ℕ). read.1) read_by all));
          writes = map written_by all;
          are_writes = are_met target at target_chains target_many at_is_box at_lies (λ (task : Task). task.target) (λ group task is. is.target) all tasks hold
              are_tasks;
          chunks_written = counts.chunks_written ∙ ap sum (sym (map_of_map (λ (write : ℕ × ℕ). write.0) written_by all));
        }

-- ---- by either array

module _ (source target : List Dimension) (region : Box) (at : List ℕ) (each : List NonZeroU64)
    (has : HasTasks (array_sizes source) (array_sizes target) region at (numbers each)) (source_chains : AllByRecursion IsChain source)
    (target_chains : AllByRecursion IsChain target) (is_region : IsBox region) (is_moved : IsBox (moved at region)) (tasks : List Task)
    (along : List CountsAlong) where
  same_many : length source ≡ length target
  same_many = as_many_dimensions source target region at (numbers each) has

  each_many : length each ≡ length source
  each_many = sym (length-map each non_zero_u64_get) ∙ chunks_of_source source target region at (numbers each) has

  pub counts_by_target : AreTasksByTarget target (numbers each) region at tasks
      → AreGroupCounts source target target (numbers each) (moved at region) region.start at along → AreTaskCounts source target tasks along
  counts_by_target are counts =
      task_counts_are target each (moved at region) target_chains (each_many ∙ same_many) is_moved
      (omega (arith, at_starts source target region at (numbers each) has tasks, target_long source target region at (numbers each) has tasks)) source target
      region.start at source_chains target_chains same_many refl is_region is_moved has.can.in_source has.can.in_target tasks along are counts

  pub counts_by_source : AreTasksBySource source (numbers each) region at tasks
      → AreGroupCounts source target source (numbers each) region region.start at along → AreTaskCounts source target tasks along
  counts_by_source are counts =
      task_counts_are source each region source_chains each_many is_region
      (omega (arith, region_starts source target region at (numbers each) has tasks, source_long source target region at (numbers each) has tasks)) source target
      region.start at source_chains target_chains refl (sym same_many) is_region is_moved has.can.in_source has.can.in_target tasks along are counts
