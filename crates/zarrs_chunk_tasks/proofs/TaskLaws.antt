-- What holds of the tasks of every copy.
use Rattle.std.proofs.Common.{◌≡◌, ◌≢◌, ◌↔◌, ◌∙◌, ℕ, ◌+◌, ◌-◌, ◌/◌, List, [], ◌∷◌, Contains, length, ap, ap₂, refl, subst, sym, arith}
use Rattle.std.specs.List.{AllByRecursion, AllPairs}
use Rattle.std.proofs.lemmas.List.{length-map}
use Rattle.zarrs_chunk_base.specs.ArraySubset.{AreWithin, Box, IsBox, IsInside}
use Rattle.zarrs_chunk_base.specs.Dimension.{Dimension, Holds, InBox, IsChain, array_sizes}
use Rattle.zarrs_chunk_axes.specs.InBounds.{AreBelow}
use Rattle.zarrs_chunks.specs.Walks.{chunks_in, counted_from}
use Rattle.zarrs_chunks.proofs.Chains.{no_later}
use Rattle.zarrs_chunks.proofs.ChunksInBoxes.{are_those_inside, chunks_once, length_below, lie_within, offset_of}
use Rattle.zarrs_chunk_base.proofs.Boxes.{within_lengths}
use Rattle.zarrs_chunk_parts.specs.Plan.{Meets}
use Rattle.zarrs_chunk_plan.specs.Region.{EndWithin, IsDestination, LiesIn, shifted}
use Rattle.zarrs_chunk_plan.proofs.MovedBoxes.{within_below, within_long, within_starts}
use Rattle.zarrs_chunk_plan.proofs.Plans.{added, counted_once, length_counted, pair_of, pairs_of, source_of}
use Rattle.zarrs_chunk_tasks.specs.Groups.{InGroup}
use Rattle.zarrs_chunk_tasks.specs.Tasks.{AreTasks, AreTasksBySource, AreTasksByTarget, AreTheCopy, GoesByBoth, HasTasks, IsTask, Moves}
use Rattle.zarrs_chunk_tasks.specs.declared.task.Task.{Task}

-- ---- groups

-- an index lies in one chunk
pub same_chunk : (d : Dimension) → IsChain d → (c e i : ℕ) → Holds d c i → Holds d e i → c ≡ e
same_chunk d chain c e i one other =
    omega (arith, no_later d chain c e i i (omega arith) one other, no_later d chain e c i i (omega arith) other one)

-- an element of the array is in some group
some_group : (ds : List Dimension) (each index : List ℕ) → AllByRecursion IsChain ds → length each ≡ length ds → AreBelow (array_sizes ds) index
    → (group : List ℕ) × InGroup ds each group index
some_group [] [] [] chains many below = ([], tt)
some_group (d ∷ ds) (k ∷ each) (i ∷ index) chains many below =
    let (c, counted, here) = chains.0.reaches i below.0 in
    let (group, others) = some_group ds each index chains.1 (omega arith) below.1 in
    ((c / k) ∷ group, (record { chunk = c; holds = here; joined = refl }, others))
some_group _ _ _ chains many below = absurd (first_of (assumption, omega arith))

-- a chunk that holds an element of a group is one of the group, and of no other
pub group_of_chunk : (ds : List Dimension) (each chunk one other index also : List ℕ) → AllByRecursion IsChain ds → InBox ds chunk index
    → InBox ds chunk also → InGroup ds each one index → InGroup ds each other also → one ≡ other
group_of_chunk [] [] [] [] [] [] [] chains box also_box in_one in_other = refl
group_of_chunk (d ∷ ds) (k ∷ each) (c ∷ chunk) (t ∷ one) (u ∷ other) (i ∷ index) (j ∷ also) chains box also_box in_one in_other =
    let first = same_chunk d chains.0 c in_one.0.chunk i box.0 in_one.0.holds in
    let second = same_chunk d chains.0 c in_other.0.chunk j also_box.0 in_other.0.holds in
    let here : t ≡ u = sym in_one.0.joined ∙ ap (λ m. m / k) (sym first ∙ second) ∙ in_other.0.joined in
    ap₂ (λ x xs. x ∷ xs) here (group_of_chunk ds each chunk one other index also chains.1 box.1 also_box.1 in_one.1 in_other.1)
group_of_chunk _ _ _ _ _ _ _ chains box also_box in_one in_other = absurd assumption

home_in : (ds : List Dimension) (each group index : List ℕ) → InGroup ds each group index → (chunk : List ℕ) × InBox ds chunk index
home_in [] [] [] [] in_group = ([], tt)
home_in (d ∷ ds) (k ∷ each) (t ∷ group) (i ∷ index) in_group =
    let (chunk, box) = home_in ds each group index in_group.1 in
    (in_group.0.chunk ∷ chunk, (in_group.0.holds, box))
home_in _ _ _ _ in_group = absurd in_group

same_group : (ds : List Dimension) (each one other index : List ℕ) → AllByRecursion IsChain ds → InGroup ds each one index → InGroup ds each other index
    → one ≡ other
same_group ds each one other index chains in_one in_other =
    let (chunk, box) = home_in ds each one index in_one in group_of_chunk ds each chunk one other index index chains box box in_one in_other

-- ---- one task

-- the element lies so far behind the first one, in a group
pub record MovesBehind (ds : List Dimension) (each : List ℕ) (elements : Box) (first at group index to : List ℕ) : Type 0 where
  pub behind : List ℕ
  pub below : AreBelow elements.shape behind
  pub from : index ≡ counted_from first behind
  pub into : to ≡ counted_from at behind
  pub in_group : InGroup ds each group (counted_from elements.start behind)

module _ {ds : List Dimension} {each : List ℕ} {elements : Box} {first at : List ℕ} (elements_long : length elements.start ≡ length elements.shape)
    (first_long : length first ≡ length elements.start) (at_long : length at ≡ length elements.start) where
  module _ {group : List ℕ} {task : Task} (is : IsTask ds each elements first at group task) where
    abbrev distance : List ℕ
    distance = is.behind.start

    -- the buffer has as many dimensions as the elements
    steps_long : (index : List ℕ) → IsInside (shifted elements.start is.behind) index → IsInside elements index → length distance ≡ length elements.start
    steps_long index within inside =
        let there = within_lengths _ _ index within in
        let here = within_lengths _ _ index inside in
        omega (arith, is.buffer.is_box.lengths, is.is_box.lengths)

    counted_long : (steps : List ℕ) → AreBelow is.behind.shape steps → length (counted_from distance steps) ≡ length distance
    counted_long steps below = length_counted distance steps (omega (arith, length_below is.behind.shape steps below, is.is_box.lengths))

    pub moves_only : (index to : List ℕ) → Moves task index to → MovesBehind ds each elements first at group index to
    moves_only index to there =
        let below : AreBelow is.behind.shape there.behind = subst (λ (b : Box). AreBelow b.shape there.behind) is.source there.below in
        let behind = counted_from distance there.behind in
        let within = lie_within (counted_from elements.start distance) is.behind.shape there.behind is.buffer.is_box.lengths below in
        let same = added elements.start distance there.behind in
        let (inside, in_group) = (is.buffer.elements _).0 within in
        let long = steps_long _ within inside in
        let (steps, steps_below, counted) = offset_of elements.start elements.shape _ inside in
        let behind_is : behind ≡ steps =
        counted_once elements.start behind steps (omega (arith, counted_long there.behind below))
        (omega (arith, length_below elements.shape steps steps_below, elements_long)) (same ∙ sym counted)
        in
        record {
          behind = behind;
          below = subst (AreBelow elements.shape) (sym behind_is) steps_below;
          from = there.from ∙ ap (λ (b : Box). counted_from b.start there.behind) is.source ∙ sym (added first distance there.behind);
          into = there.into ∙ ap (λ (b : Box). counted_from b.start there.behind) is.target ∙ sym (added at distance there.behind);
          in_group = subst (InGroup ds each group) (sym same) in_group;
        }

    pub moves : (index to : List ℕ) → MovesBehind ds each elements first at group index to → Moves task index to
    moves index to there =
        let inside = lie_within elements.start elements.shape there.behind elements_long there.below in
        let within = (is.buffer.elements _).1 (inside, there.in_group) in
        let long = steps_long _ within inside in
        let (steps, below, counted) = offset_of (counted_from elements.start distance) is.behind.shape _ within in
        let behind_is : counted_from distance steps ≡ there.behind =
        counted_once elements.start (counted_from distance steps) there.behind (omega (arith, counted_long steps below))
        (omega (arith, length_below elements.shape there.behind there.below, elements_long)) (added elements.start distance steps ∙ counted)
        in
        record {
          behind = steps;
          below = subst (λ (b : Box). AreBelow b.shape steps) (sym is.source) below;
          from = there.from ∙ ap (counted_from first) (sym behind_is) ∙ added first distance steps
              ∙ ap (λ (b : Box). counted_from b.start steps) (sym is.source);
          into = there.into ∙ ap (counted_from at) (sym behind_is) ∙ added at distance steps
              ∙ ap (λ (b : Box). counted_from b.start steps) (sym is.target);
        }

  -- two tasks of different groups read different elements, and write different ones
  module _ (one other : List ℕ) (task next : Task) (chains : AllByRecursion IsChain ds) (is : IsTask ds each elements first at one task)
      (is_next : IsTask ds each elements first at other next) (differ : one ≢ other) where
    apart : (start index to also into : List ℕ) → length start ≡ length elements.start → (here : MovesBehind ds each elements first at one index to)
        → (there : MovesBehind ds each elements first at other also into) → counted_from start here.behind ≡ counted_from start there.behind → ⊥
    apart start index to also into long here there counted =
        let same : here.behind ≡ there.behind =
        counted_once start here.behind there.behind (omega (arith, length_below elements.shape here.behind here.below, elements_long, long))
        (omega (arith, length_below elements.shape there.behind there.below, elements_long, long)) counted
        in
        differ (same_group ds each one other _ chains here.in_group
        (subst (λ steps. InGroup ds each other (counted_from elements.start steps)) (sym same) there.in_group))

    read_apart : (index to also : List ℕ) → Moves task index to → Moves next index also → ⊥
    read_apart index to also goes goes_also =
        let here = moves_only is index to goes in
        let there = moves_only is_next index also goes_also in
        apart first index to index also first_long here there (sym here.from ∙ there.from)

    written_apart : (to index also : List ℕ) → Moves task index to → Moves next also to → ⊥
    written_apart to index also goes goes_also =
        let here = moves_only is index to goes in
        let there = moves_only is_next also to goes_also in
        apart at index to also to at_long here there (sym here.into ∙ there.into)

-- ---- all tasks

module _ {ds : List Dimension} {each : List ℕ} {elements : Box} {first at : List ℕ} {tasks : List Task} (chains : AllByRecursion IsChain ds)
    (elements_long : length elements.start ≡ length elements.shape) (first_long : length first ≡ length elements.start) (at_long : length at ≡ length elements.start)
    (are : AreTasks ds each elements first at tasks) where
  abbrev pub Is : List ℕ → Task → Type 0
  Is = IsTask ds each elements first at

  abbrev pub region : Box
  region = record { start = first; shape = elements.shape }

  -- an element is moved by some task, to where it goes
  some_task : LiesIn elements (array_sizes ds) → length each ≡ length ds → (index to : List ℕ)
      → IsDestination region at index to
      → (task : Task) × Contains tasks task × Moves task index to
  some_task lies many index to goes =
      let place = counted_from elements.start goes.behind in
      let inside = lie_within elements.start elements.shape goes.behind elements_long goes.below in
      let (group, in_group) = some_group ds each place chains many (within_below elements.start elements.shape (array_sizes ds) place lies inside) in
      let among = (are_those_inside are.groups are.is_box group).1 ((are.named group).1 (place, inside, in_group)) in
      let (task, in_tasks, is) = pair_of Is (chunks_in are.groups) tasks are.are_tasks group among in (
        task,
        in_tasks,
        moves elements_long first_long at_long is index to
            (record { behind = goes.behind; below = goes.below; from = goes.from; into = goes.into; in_group = in_group }),
      )

  -- and a task moves nothing else
  nothing_else : (task : Task) → Contains tasks task → (index to : List ℕ) → Moves task index to → IsDestination region at index to
  nothing_else task in_tasks index to goes =
      let (group, among, is) = source_of Is (chunks_in are.groups) tasks are.are_tasks task in_tasks in
      let there = moves_only elements_long first_long at_long is index to goes in
      record { behind = there.behind; below = there.below; from = there.from; into = there.into }

  pub are_the_copy : LiesIn elements (array_sizes ds) → length each ≡ length ds → AreTheCopy region at tasks
  are_the_copy lies many = record {
    moved = λ index to. (some_task lies many index to, λ (task, in_tasks, goes). nothing_else task in_tasks index to goes);
    one_shape = λ task in_tasks.
        let (group, among, is) = source_of Is (chunks_in are.groups) tasks are.are_tasks task in_tasks in
        ap (λ (b : Box). b.shape) is.source ∙ sym (ap (λ (b : Box). b.shape) is.target);
    read_once =
        pairs_of Is (λ one other. (index to also : List ℕ) → Moves one index to → Moves other index also → ⊥) (chunks_in are.groups) tasks are.are_tasks
        (chunks_once are.groups are.is_box)
        (λ one other task next among also differ is is_next. read_apart elements_long first_long at_long one other task next chains is is_next differ);
    written_once =
        pairs_of Is (λ one other. (to index also : List ℕ) → Moves one index to → Moves other also to → ⊥) (chunks_in are.groups) tasks are.are_tasks
        (chunks_once are.groups are.is_box)
        (λ one other task next among also differ is is_next. written_apart elements_long first_long at_long one other task next chains is is_next differ);
  }

module _ {ds : List Dimension} {each : List ℕ} {elements : Box} {first at : List ℕ} {tasks : List Task} (chains : AllByRecursion IsChain ds)
    (are : AreTasks ds each elements first at tasks) where
  -- no chunk of the grouped array is in two tasks
  pub no_chunk_twice : (box_of : Task → Box) → ((group : List ℕ) (task : Task) (is : IsTask ds each elements first at group task) → box_of task ≡ shifted elements.start is.behind)
      → AllPairs (λ one other. (chunk : List ℕ) → Meets ds (box_of one) chunk → Meets ds (box_of other) chunk → ⊥) tasks
  no_chunk_twice box_of is_buffer =
      pairs_of (IsTask ds each elements first at)
      (λ one other. (chunk : List ℕ) → Meets ds (box_of one) chunk → Meets ds (box_of other) chunk → ⊥) (chunks_in are.groups) tasks are.are_tasks (chunks_once are.groups are.is_box)
      (λ one other task next among also differ is is_next chunk (index, box, inside) (place, also_box, also_inside).
      let (_, in_one) = (is.buffer.elements index).0 (subst (λ b. IsInside b index) (is_buffer one task is) inside) in
      let (_, in_other) = (is_next.buffer.elements place).0 (subst (λ b. IsInside b place) (is_buffer other next is_next) also_inside) in
      differ (group_of_chunk ds each chunk one other index place chains box also_box in_one in_other))

-- ---- both boxes of a task lie in their arrays

-- a box that lies in another one, counted from its first element, ends within its shape
pub ends_inside : (start steps sizes shape index : List ℕ) → length steps ≡ length start → AreWithin (counted_from start steps) sizes index
    → ((x : List ℕ) → AreWithin (counted_from start steps) sizes x → AreWithin start shape x) → EndWithin steps sizes shape
ends_inside [] [] [] shape [] same within inside = none shape (inside [] tt) where
  none : (shape : List ℕ) → AreWithin [] shape [] → EndWithin [] [] shape
  none [] within = tt
  none (_ ∷ _) within = absurd within
ends_inside (s ∷ start) (n ∷ steps) (m ∷ sizes) [] (i ∷ index) same within inside = absurd (inside (i ∷ index) within)
ends_inside (s ∷ start) (n ∷ steps) (m ∷ sizes) (k ∷ shape) (i ∷ index) same within inside =
    let low = within.0 in
    let high = within.1 in
    let last = inside ((s + n + (m - 1)) ∷ index) (omega arith, omega arith, within.2) in (
      omega (arith, last.1),
      ends_inside start steps sizes shape index (omega arith) within.2 (λ x here. (inside (i ∷ x) (within.0, within.1, here)).2),
    )
ends_inside [] [] (_ ∷ _) shape index same within inside = absurd within
ends_inside [] [] [] shape (_ ∷ _) same within inside = absurd within
ends_inside (_ ∷ _) (_ ∷ _) [] shape index same within inside = absurd within
ends_inside (_ ∷ _) (_ ∷ _) (_ ∷ _) shape [] same within inside = absurd within
ends_inside [] (_ ∷ _) sizes shape index same within inside = absurd (omega arith)
ends_inside (_ ∷ _) [] sizes shape index same within inside = absurd (omega arith)

-- and so does the box from elsewhere on
pub still_within : (first steps sizes shape array : List ℕ) → EndWithin steps sizes shape → EndWithin first shape array
    → EndWithin (counted_from first steps) sizes array
still_within [] [] [] [] [] ends lies = tt
still_within (f ∷ first) (n ∷ steps) (m ∷ sizes) (k ∷ shape) (a ∷ array) ends lies =
    (omega (arith, ends.0, lies.0), still_within first steps sizes shape array ends.1 lies.1)
still_within first steps sizes shape array ends lies =
    absurd (omega (arith, within_starts steps sizes shape ends, within_long steps sizes shape ends, within_starts first shape array lies, within_long first shape array lies))

module _ {ds : List Dimension} {each : List ℕ} {elements : Box} {first at : List ℕ} {tasks : List Task}
    (elements_long : length elements.start ≡ length elements.shape) (first_long : length first ≡ length elements.start)
    (at_long : length at ≡ length elements.start) (are : AreTasks ds each elements first at tasks) (source target : List ℕ)
    (from_lies : EndWithin first elements.shape source) (into_lies : EndWithin at elements.shape target) where
  pub task_lies : (task : Task) → Contains tasks task → LiesIn task.source source × LiesIn task.target target
  task_lies task in_tasks =
      let (group, among, is) = source_of (IsTask ds each elements first at) (chunks_in are.groups) tasks are.are_tasks task in_tasks in
      let (index, inside, in_group) = (are.named group).0 ((are_those_inside are.groups are.is_box group).0 among) in
      let within = (is.buffer.elements index).1 (inside, in_group) in
      let ends = ends_inside elements.start is.behind.start is.behind.shape elements.shape index
      (steps_long elements_long first_long at_long is index within inside) within (λ x here. ((is.buffer.elements x).0 here).0)
      in (
        subst (λ (b : Box). LiesIn b source) (sym is.source) (still_within first is.behind.start is.behind.shape elements.shape source ends from_lies),
        subst (λ (b : Box). LiesIn b target) (sym is.target) (still_within at is.behind.start is.behind.shape elements.shape target ends into_lies),
      )

-- ---- the numbers of dimensions

module _ (source target : List Dimension) (region : Box) (at each : List ℕ) (has : HasTasks (array_sizes source) (array_sizes target) region at each) where
  pub as_many_dimensions : length source ≡ length target
  as_many_dimensions =
      omega (
        arith,
        within_long region.start region.shape (array_sizes source) has.can.in_source,
        within_long at region.shape (array_sizes target) has.can.in_target,
        length-map source (λ (d : Dimension). d.array_size),
        length-map target (λ (d : Dimension). d.array_size),
      )

  pub chunks_of_source : length each ≡ length source
  chunks_of_source = has.lengths ∙ length-map source (λ (d : Dimension). d.array_size)

  pub chunks_of_target : length each ≡ length target
  chunks_of_target = chunks_of_source ∙ as_many_dimensions

-- ---- by either array

module _ (source target : List Dimension) (region : Box) (at each : List ℕ) (has : HasTasks (array_sizes source) (array_sizes target) region at each)
    (tasks : List Task) where
  pub source_long : length (array_sizes source) ≡ length source
  source_long = length-map source (λ (d : Dimension). d.array_size)

  pub target_long : length (array_sizes target) ≡ length target
  target_long = length-map target (λ (d : Dimension). d.array_size)

  pub region_starts : length region.start ≡ length (array_sizes source)
  region_starts = within_starts region.start region.shape (array_sizes source) has.can.in_source

  pub region_sizes : length region.shape ≡ length (array_sizes source)
  region_sizes = within_long region.start region.shape (array_sizes source) has.can.in_source

  pub at_starts : length at ≡ length (array_sizes target)
  at_starts = within_starts at region.shape (array_sizes target) has.can.in_target

  pub at_sizes : length region.shape ≡ length (array_sizes target)
  at_sizes = within_long at region.shape (array_sizes target) has.can.in_target

  pub copy_by_target : AllByRecursion IsChain target → AreTasksByTarget target each region at tasks → AreTheCopy region at tasks
  copy_by_target chains are =
      are_the_copy chains (omega (arith, at_starts, at_sizes)) (omega (arith, region_starts, region_sizes, at_starts, at_sizes)) refl are has.can.in_target
      (omega (arith, has.lengths, region_sizes, at_sizes, target_long))

  pub copy_by_source : AllByRecursion IsChain source → AreTasksBySource source each region at tasks → AreTheCopy region at tasks
  copy_by_source chains are =
      are_the_copy chains (omega (arith, region_starts, region_sizes)) refl (omega (arith, region_starts, region_sizes, at_starts, at_sizes)) are
      has.can.in_source (omega (arith, has.lengths, source_long))

  pub lies_by_target : AreTasksByTarget target each region at tasks → (task : Task) → Contains tasks task
      → LiesIn task.source (array_sizes source) × LiesIn task.target (array_sizes target)
  lies_by_target are =
      task_lies (omega (arith, at_starts, at_sizes)) (omega (arith, region_starts, region_sizes, at_starts, at_sizes)) refl are (array_sizes source)
      (array_sizes target) has.can.in_source has.can.in_target

  pub lies_by_source : AreTasksBySource source each region at tasks → (task : Task) → Contains tasks task
      → LiesIn task.source (array_sizes source) × LiesIn task.target (array_sizes target)
  lies_by_source are =
      task_lies (omega (arith, region_starts, region_sizes)) refl (omega (arith, region_starts, region_sizes, at_starts, at_sizes)) are (array_sizes source)
      (array_sizes target) has.can.in_source has.can.in_target

-- ---- two stages

module _ (region between : Box) (at : List ℕ) (first second : List Task) (is_box : IsBox between) (one_shape : between.shape ≡ region.shape)
    (to_between : AreTheCopy region between.start first) (from_between : AreTheCopy between at second) (index to : List ℕ) where
  by_both : IsDestination region at index to → GoesByBoth first second index to
  by_both goes =
      let middle = counted_from between.start goes.behind in (
        middle,
        (to_between.moved index middle).0 (record { behind = goes.behind; below = goes.below; from = goes.from; into = refl }),
        (from_between.moved middle to).0
            (record { behind = goes.behind; below = subst (λ shape. AreBelow shape goes.behind) (sym one_shape) goes.below; from = refl; into = goes.into }),
      )

  by_one : GoesByBoth first second index to → IsDestination region at index to
  by_one (middle, one, other) =
      let goes = (to_between.moved index middle).1 one in
      let next = (from_between.moved middle to).1 other in
      let long = length_below region.shape goes.behind goes.below in
      let also = length_below between.shape next.behind next.below in
      let same : goes.behind ≡ next.behind =
      counted_once between.start goes.behind next.behind (omega (arith, long, is_box.lengths, ap length one_shape)) (omega (arith, also, is_box.lengths))
      (sym goes.into ∙ next.from)
      in
      record { behind = goes.behind; below = goes.below; from = goes.from; into = next.into ∙ ap (counted_from at) (sym same) }

  pub both_stages : IsDestination region at index to ↔ GoesByBoth first second index to
  both_stages = (by_both, by_one)
