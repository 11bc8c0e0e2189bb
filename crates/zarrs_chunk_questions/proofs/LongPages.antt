-- How long the text of a page is at least, by how many items it has.
use Rattle.std.proofs.Common.{◌≡◌, ◌∙◌, ℕ, suc, ◌+◌, ◌*◌, ◌<◌, ◌≤◌, Bool, true, false, MatchOption, List, [], ◌∷◌, Option, Some, None}
use Rattle.std.proofs.Common.{◌-◌, Err, IfOk, Ok, Result, ap, ap₂, arith, codes, cond, drop, min, nat_lt, length, map, refl, subst, take}
use Rattle.std.specs.declared.alloc.AllocError.{AllocError}
use Rattle.std.proofs.lemmas.Nat.{mul-le}
use Rattle.std.proofs.lemmas.List.{length-map}
use Rattle.std.specs.List.{AllByRecursion, AllZip, filter}
use Rattle.serde_json.specs.Data.{Data, Members, array, member, no_members, object, string}
use Rattle.serde_json.specs.View.{items_of, view}
use Rattle.serde_json.specs.declared.value.Value.{Value}
use Rattle.zarrs_chunk_base.specs.ArraySubset.{Box}
use Rattle.zarrs_chunk_base.specs.Dimension.{Dimension, Holds, array_sizes, grid_sizes}
use Rattle.zarrs_chunk_base.proofs.InEach.{length_numbers}
use Rattle.zarrs_chunk_axes.specs.InBounds.{AreBelow}
use Rattle.zarrs_chunk_axes.proofs.RowMajor.{all_below, all_follow}
use Rattle.zarrs_chunks.specs.Walks.{box_at, boxed, chunks_in, chunks_of, ends_within, lengths_at, starts_at}
use Rattle.zarrs_chunks.proofs.ChunksInBoxes.{length_below}
use Rattle.zarrs_chunk_parts.specs.Plan.{IsPart, Meets}
use Rattle.zarrs_chunk_parts.specs.declared.part.Part.{Part}
use Rattle.zarrs_chunk_keys.specs.ChunkKey.{IsKey}
use Rattle.zarrs_chunk_plan.proofs.MovedBoxes.{within_long}
use Rattle.zarrs_chunk_plan.proofs.Plans.{all_long, meet_each}
use Rattle.zarrs_chunk_tasks.specs.Tasks.{TaskPlan}
use Rattle.zarrs_chunk_questions.specs.Pages.{count_of, is_more, item_tree, item_trees, page_from, page_tree, part_tree, some_from, walk_page}
use Rattle.zarrs_chunk_questions.specs.Tasks.{Copy, HasPartsOf, HasTasksOf, overlap_tree, source_dimensions, target_dimensions, task_tree, whole_if}
use Rattle.zarrs_chunk_questions.specs.Trees.{numbers_tree}
use Rattle.zarrs_chunk_questions.specs.declared.call.WalkOf.{WalkOf}
use Rattle.zarrs_chunk_questions.specs.declared.call.WalkOf.TheVariants.{Boxes, Chunks, ChunksAndBoxes}
use Rattle.zarrs_chunk_questions.specs.seen.Copies.{parts_in, parts_of}
use Rattle.zarrs_chunk_questions.specs.seen.Lines.{IsGiven}
use Rattle.zarrs_chunk_questions.specs.seen.Walked.{IsFirstPage, lists_in}
use Rattle.zarrs_chunk_questions.proofs.Lengths.{array_long, box_long, each_long, member_long, numbers_long, page_long, text_long, texts, three_long}
use Rattle.zarrs_chunk_questions.proofs.Listed.{all_behind, all_taken}

-- ---- what is given, in other words

pub given_so : (bytes least : ℕ) (P R : Data → Type 0) (found : Option Value) → ((t : Data) → P t → R t) → least ≤ bytes → IsGiven bytes P found
    → IsGiven least R found
given_so bytes least P R (Some tree) so fewer is = so (view tree) is
given_so bytes least P R None so fewer (t, is, long) = (t, so t is, omega arith)

-- ---- so many items

abbrev pub AreLong : ℕ → List Data → Type 0
AreLong least = AllByRecursion (λ d. least ≤ text_long d)

-- a page of too many items is longer than there is room for
pub long_page : (least room too_many : ℕ) (items : List Data) (more : Bool) → AreLong least items → too_many ≤ length items → room < too_many * least
    → room + 1 ≤ text_long (page_tree items more)
long_page least room too_many items more all many full =
    let each = each_long least items all in
    let page = page_long items more in
    let times : too_many * least ≤ length items * least = mul-le too_many least (length items) least many (omega arith) in
    omega arith

all_mapped : {X Y : Type 0} (P : X → Type 0) (Q : Y → Type 0) (f : X → Y) → ((x : X) → P x → Q (f x)) → (xs : List X) → AllByRecursion P xs
    → AllByRecursion Q (map f xs)
all_mapped P Q f each [] all = tt
all_mapped P Q f each (x ∷ xs) all = (each x all.0, all_mapped P Q f each xs all.1)

all_filtered : {X : Type 0} (P : X → Type 0) (p : X → Bool) (xs : List X) → AllByRecursion P xs → AllByRecursion P (filter p xs)
all_filtered P p [] all = tt
all_filtered P p (x ∷ xs) all = kept (p x) (all_filtered P p xs all.1) where
  kept : (b : Bool) → AllByRecursion P (filter p xs) → AllByRecursion P (cond b (x ∷ filter p xs) (filter p xs))
  kept true rest = (all.0, rest)
  kept false rest = rest

-- ---- walks

starts_long : (ds : List Dimension) (chunk : List ℕ) → length chunk ≡ length ds → length (starts_at ds chunk) ≡ length ds
starts_long [] [] same = refl
starts_long (d ∷ ds) (c ∷ chunk) same = ap suc (starts_long ds chunk (omega arith))
starts_long _ _ same = absurd (omega arith)

lengths_long : (ds : List Dimension) (chunk : List ℕ) → length chunk ≡ length ds → length (lengths_at ds chunk) ≡ length ds
lengths_long [] [] same = refl
lengths_long (d ∷ ds) (c ∷ chunk) same = ap suc (lengths_long ds chunk (omega arith))
lengths_long _ _ same = absurd (omega arith)

abbrev least_of : WalkOf → List Dimension → ℕ
least_of walk ds = 2 * (lists_in walk * length ds) + 1

item_long : (walk : WalkOf) (ds : List Dimension) (chunk : List ℕ) → length chunk ≡ length ds
    → least_of walk ds ≤ text_long (item_tree walk ds chunk)
item_long Chunks ds chunk same = let long = numbers_long chunk in omega arith
item_long Boxes ds chunk same =
    let start = starts_long ds chunk same in
    let shape = lengths_long ds chunk same in
    let long = box_long (box_at ds chunk) in
    omega arith
item_long ChunksAndBoxes ds chunk same =
    let start = starts_long ds chunk same in
    let shape = lengths_long ds chunk same in
    let numbers = numbers_long chunk in
    let b = box_long (box_at ds chunk) in
    let long = array_long (item_tree Chunks ds chunk ∷ item_tree Boxes ds chunk ∷ []) in
    omega arith

items_long : (walk : WalkOf) (ds : List Dimension) (chunks : List (List ℕ)) → AllByRecursion (λ chunk. length chunk ≡ length ds) chunks
    → AreLong (least_of walk ds) (item_trees walk ds chunks)
items_long Chunks ds chunks all = all_mapped _ _ (item_tree Chunks ds) (item_long Chunks ds) chunks all
items_long Boxes ds chunks all =
    all_mapped _ _ (item_tree Boxes ds) (item_long Boxes ds) (boxed ds chunks)
    (all_filtered (λ chunk. length chunk ≡ length ds) (ends_within ds) chunks all)
items_long ChunksAndBoxes ds chunks all =
    all_mapped _ _ (item_tree ChunksAndBoxes ds) (item_long ChunksAndBoxes ds) (boxed ds chunks)
    (all_filtered (λ chunk. length chunk ≡ length ds) (ends_within ds) chunks all)

counted_long : (ds : List Dimension) → AllByRecursion (λ chunk. length chunk ≡ length ds) (chunks_of ds)
counted_long ds =
    let sizes = grid_sizes ds in
    all_follow (AreBelow sizes) (λ chunk. length chunk ≡ length ds)
    (λ chunk below. length_below sizes chunk below ∙ length-map ds (λ d. d.grid_size)) (chunks_of ds) (all_below sizes)

module _ (walk : WalkOf) (ds : List Dimension) (most room too_many : ℕ) (full : room < too_many * least_of walk ds) where
  -- from the beginning
  pub first_given : (found : Option Value) → IsFirstPage most too_many (item_trees walk ds (chunks_of ds)) found
      → IsGiven (room + 1) (λ t. t ≡ walk_page walk ds most None) found
  first_given (Some tree) is = is
  first_given None many =
      let items = item_trees walk ds (chunks_of ds) in (
        walk_page walk ds most None,
        refl,
        long_page (least_of walk ds) room too_many (take most items) (nat_lt most (length items))
            (all_taken (λ d. least_of walk ds ≤ text_long d) most items (items_long walk ds (chunks_of ds) (counted_long ds))) many full,
      )

  -- from a number on
  pub page_given : (first : ℕ) (found : Option Value)
      → MatchOption found (too_many ≤ length (item_trees walk ds (some_from first most (chunks_of ds)))) (λ tree. view tree ≡ page_from walk ds first most)
      → IsGiven (room + 1) (λ t. t ≡ walk_page walk ds most (Some first)) found
  page_given first (Some tree) is = is
  page_given first None many =
      let chunks = some_from first most (chunks_of ds) in
      let IsLong : List ℕ → Type 0 = λ chunk. length chunk ≡ length ds in (
        page_from walk ds first most,
        refl,
        long_page (least_of walk ds) room too_many (item_trees walk ds chunks) (is_more first (length chunks) (count_of (chunks_of ds)))
            (items_long walk ds chunks
            (all_taken IsLong (min (count_of (chunks_of ds) - first) most) (drop first (chunks_of ds))
            (all_behind IsLong first (chunks_of ds) (counted_long ds)))) many full,
      )

  -- of what the calls answered
  pub first_made : (result : Result (Option Value) AllocError) → IfOk result (IsFirstPage most too_many (item_trees walk ds (chunks_of ds)))
      → IfOk result (IsGiven (room + 1) (λ t. t ≡ walk_page walk ds most None))
  first_made (Ok found) is = first_given found is
  first_made (Err _) is = tt

  pub page_made : (first : ℕ) (result : Result (Option Value) AllocError)
      → IfOk result (λ found. MatchOption found (too_many ≤ length (item_trees walk ds (some_from first most (chunks_of ds))))
      (λ tree. view tree ≡ page_from walk ds first most))
      → IfOk result (IsGiven (room + 1) (λ t. t ≡ walk_page walk ds most (Some first)))
  page_made first (Ok found) is = page_given first found is
  page_made first (Err _) is = tt

-- ---- parts

-- the last member of a part's tree, and the last ones of the tree of what a chunk and a buffer share
abbrev the_key : Part → Members
the_key part = member (codes "key") (string part.key) no_members

abbrev behind_boxes : (written : Bool) → Part → Members
behind_boxes written part = member (codes "key") (string part.key) (member (codes "shape") (numbers_tree part.shape.items) (whole_if written part))

abbrev pub part_least : List Dimension → ℕ
part_least ds = 2 * (5 * length ds) + 1

module _ {ds : List Dimension} {IsKey : List ℕ → List ℕ → Type 0} {b : Box} {chunk : List ℕ} {part : Part} (is : IsPart ds IsKey b chunk part)
    (meets : Meets ds b chunk) where
  pub lists_long : (length b.start ≡ length ds) × (length part.chunk.items ≡ length ds) × (length part.in_chunk.start ≡ length ds)
      × (length part.in_chunk.shape ≡ length ds) × (length part.in_selection.start ≡ length ds) × (length part.in_selection.shape ≡ length ds)
  lists_long =
      let (index, box, inside) = meets in
      let long = all_long is index (box, inside) in
      let numbers = ap length is.numbers ∙ length_numbers Holds ds chunk index box in
      let in_chunk = ap length is.boxes.from_chunk.shape in
      let in_selection = ap length is.boxes.from_subset.shape in
      (omega arith, numbers, omega arith, omega arith, omega arith, omega arith)

  pub part_long : part_least ds ≤ text_long (part_tree part)
  part_long =
      let (_, numbers, start, shape, also_start, also_shape) = lists_long in
      three_long (length ds) (codes "chunk") (codes "in_chunk") (codes "in_selection") part.chunk.items part.in_chunk part.in_selection (the_key part)
      numbers start shape also_start also_shape

  overlap_long : (written : Bool) → part_least ds ≤ text_long (overlap_tree written part)
  overlap_long written =
      let (_, numbers, start, shape, also_start, also_shape) = lists_long in
      three_long (length ds) (codes "chunk") (codes "in_buffer") (codes "in_chunk") part.chunk.items part.in_selection part.in_chunk
      (behind_boxes written part) numbers also_start also_shape start shape

-- each of parts, of chunks that hold elements of the box
each_part : (ds : List Dimension) (IsKey : List ℕ → List ℕ → Type 0) (b : Box) (tree : Part → Data)
    → ((chunk : List ℕ) (part : Part) → IsPart ds IsKey b chunk part → Meets ds b chunk → part_least ds ≤ text_long (tree part))
    → (chunks : List (List ℕ)) (parts : List Part) → AllZip (IsPart ds IsKey b) chunks parts → AllByRecursion (Meets ds b) chunks
    → AreLong (part_least ds) (map tree parts)
each_part ds IsKey b tree each [] [] are meet = tt
each_part ds IsKey b tree each (chunk ∷ chunks) (part ∷ parts) are meet =
    (each chunk part are.0 meet.0, each_part ds IsKey b tree each chunks parts are.1 meet.1)
each_part ds IsKey b tree each _ _ are meet = absurd are

pub parts_long : (ds : List Dimension) (IsKey : List ℕ → List ℕ → Type 0) (b : Box) (chunks : List (List ℕ)) (parts : List Part)
    → AllZip (IsPart ds IsKey b) chunks parts → AllByRecursion (Meets ds b) chunks → AreLong (part_least ds) (map part_tree parts)
parts_long ds IsKey b = each_part ds IsKey b part_tree (λ chunk part is meets. part_long is meets)

-- ---- tasks

-- the text of an object with two lists of trees behind its first member
lists_of_two : (j k l : List ℕ) (before : Data) (least : ℕ) (one other : List Data) → AreLong least one → AreLong least other
    → (length one + length other) * least
    ≤ text_long (object (member j before (member k (array (items_of one)) (member l (array (items_of other)) no_members))))
lists_of_two j k l before least one other all also =
    let ms = member l (array (items_of other)) no_members in
    let each = each_long least one all in
    let others = each_long least other also in
    let long = array_long one in
    let also_long = array_long other in
    let first = member_long false j before (member k (array (items_of one)) ms) in
    let second = member_long true k (array (items_of one)) ms in
    let third = member_long true l (array (items_of other)) no_members in
    let both : (length one + length other) * least ≡ length one * least + length other * least = omega arith in
    omega arith

module _ (copy : Copy) (has : HasTasksOf copy) where
  abbrev source : List Dimension
  source = source_dimensions copy

  abbrev target : List Dimension
  target = target_dimensions copy

  same_lengths : length target ≡ length source
  same_lengths =
      let from = within_long copy.region.start copy.region.shape (array_sizes source) has.can.in_source in
      let into = within_long copy.at copy.region.shape (array_sizes target) has.can.in_target in
      let one = length-map source (λ d. d.array_size) in
      let other = length-map target (λ d. d.array_size) in
      omega arith

  task_long : (plan : TaskPlan) → HasPartsOf copy plan → parts_of plan * part_least source ≤ text_long (task_tree plan)
  task_long plan have =
      let read = each_part source (IsKey copy.source.1) plan.0.source (overlap_tree false) (λ s part is meets. overlap_long is meets false)
      (chunks_in have.reads.cover) plan.1.0 have.reads.are_parts (meet_each have.reads.is_cover)
      in
      let written = each_part target (IsKey copy.target.1) plan.0.target (overlap_tree true) (λ s part is meets. overlap_long is meets true)
      (chunks_in have.writes.cover) plan.1.1 have.writes.are_parts (meet_each have.writes.is_cover)
      in
      let same : part_least target ≡ part_least source = ap (λ n. 2 * (5 * n) + 1) same_lengths in
      let many = length-map plan.1.0 (overlap_tree false) in
      let also_many = length-map plan.1.1 (overlap_tree true) in
      subst (λ n. n * part_least source ≤ text_long (task_tree plan)) (ap₂ (λ n m. n + m) many also_many)
      (lists_of_two (codes "buffer") (codes "from") (codes "to") (numbers_tree plan.0.source.shape) (part_least source)
      (map (overlap_tree false) plan.1.0) (map (overlap_tree true) plan.1.1) read
      (subst (λ n. AreLong n (map (overlap_tree true) plan.1.1)) same written))

  tasks_long : (plans : List TaskPlan) → AllByRecursion (HasPartsOf copy) plans → parts_in plans * part_least source ≤ texts (map task_tree plans)
  tasks_long [] have = omega arith
  tasks_long (plan ∷ plans) have =
      let here = task_long plan have.0 in
      let rest = tasks_long plans have.1 in
      let both : parts_in (plan ∷ plans) * part_least source ≡ parts_of plan * part_least source + parts_in plans * part_least source = omega arith in
      omega arith

  -- a page of tasks with too many parts
  pub long_tasks : (too_many : ℕ) (plans : List TaskPlan) (more : Bool) → AllByRecursion (HasPartsOf copy) plans → too_many ≤ parts_in plans
      → too_many * part_least source ≤ text_long (page_tree (map task_tree plans) more)
  long_tasks too_many plans more have many =
      let all = tasks_long plans have in
      let page = page_long (map task_tree plans) more in
      let least = part_least source in
      let times : too_many * least ≤ parts_in plans * least = mul-le too_many least (parts_in plans) least many (omega arith) in
      omega arith
