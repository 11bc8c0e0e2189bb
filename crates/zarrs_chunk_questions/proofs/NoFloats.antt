-- No answer has a float: its numbers are sizes.
use Rattle.std.proofs.Common.{◌≡◌, ◌∙◌, ◌||◌, ℕ, zero, suc, Bool, false, true, List, [], ◌∷◌, Option, Some, None, ap, ap₂, length, map, nat_lt, refl, take, arith, ⊎_elim}
use Rattle.std.proofs.lemmas.Bool.{or_parts}
use Rattle.serde_json.specs.Data.{Data, Members}
use Rattle.serde_json.specs.View.{items_of}
use Rattle.serde_json.specs.Written.{has_float, items_have_float, members_have_float}
use Rattle.zarrs_chunk_base.specs.ArraySubset.{Box}
use Rattle.zarrs_chunk_base.specs.Grid.{Grid}
use Rattle.zarrs_chunk_base.specs.Json.{size_tree}
use Rattle.zarrs_chunk_base.specs.Metadata.{extension_tree}
use Rattle.zarrs_chunks.specs.GridKinds.{GridKind}
use Rattle.zarrs_chunks.proofs.NoFloats.{no_float_in_list, no_float_in_numbers, no_float_mapped}
use Rattle.zarrs_chunks.proofs.SeenGrids.{no_float_written}
use Rattle.zarrs_chunks.specs.Walks.{boxed, chunks_of}
use Rattle.zarrs_chunk_base.specs.Dimension.{Dimension}
use Rattle.zarrs_chunk_plan.specs.Counted.{counted}
use Rattle.zarrs_chunk_plan.specs.declared.bytes.ranges.ByteRanges.{ByteRanges}
use Rattle.zarrs_chunk_tasks.specs.Tasks.{TaskPlan}
use Rattle.zarrs_chunk_tasks.specs.declared.counts.CountsAlong.{CountsAlong}
use Rattle.zarrs_chunk_parts.specs.declared.part.Part.{Part}
use Rattle.zarrs_chunk_questions.specs.Answers.{IsAnswer, IsArrayAnswer, IsBoxAnswer, IsGridAnswer, IsNumbersAnswer}
use Rattle.zarrs_chunk_questions.specs.Bytes.{ranges_tree}
use Rattle.zarrs_chunk_questions.specs.Pages.{count_of, first_of, is_more, item_tree, item_trees, page_tree, part_tree, parts_tree, some_from, walk_page}
use Rattle.zarrs_chunk_questions.specs.Question as question
use Rattle.zarrs_chunk_questions.specs.Question.{Asked, Question, ShareAsked}
use Rattle.zarrs_chunk_questions.specs.Tasks.{count_tree, counts_tree, number_tree, overlap_tree, task_tree}
use Rattle.zarrs_chunk_questions.specs.Trees.{box_tree, numbers_tree, or_null}
use Rattle.zarrs_chunk_questions.specs.declared.call.OfBox.{OfBox}
use Rattle.zarrs_chunk_questions.specs.declared.call.OfGrid.{OfGrid}
use Rattle.zarrs_chunk_questions.specs.declared.call.OfNumbers.{OfNumbers}
use Rattle.zarrs_chunk_questions.specs.declared.call.WalkOf.{WalkOf}
use Rattle.zarrs_chunk_questions.specs.declared.call.WalkOf.TheVariants.{Boxes, Chunks, ChunksAndBoxes}

abbrev HasNone : Data → Type 0
HasNone d = has_float d ≡ false

-- ---- the forms

a_box : (b : Box) → HasNone (box_tree b)
a_box b = no_float_in_list numbers_tree no_float_in_numbers (b.start ∷ b.shape ∷ [])

or_none : {X : Type 0} (tree : X → Data) → ((x : X) → HasNone (tree x)) → (answer : Option X) → HasNone (or_null tree answer)
or_none tree each answer = grind arith

-- the metadata of an extension whose configuration has none
of_members : (name : List ℕ) (configuration : Option Members) (said : Members) → configuration ≡ Some said → members_have_float said ≡ false
    → HasNone (extension_tree (record { name = name; configuration = configuration }))
of_members name configuration said is none = rw is (ap (λ b. b || false) none)

-- ---- a grid, numbers and boxes

of_alone : (call : OfGrid) (kind : GridKind) (grid : Grid) (t : Data) → IsGridAnswer call kind grid t → HasNone t
of_alone call kind grid t is = grind (arith, no_float_in_numbers, no_float_written, of_members)

of_says : {X : Type 0} (tree : X → Data) → ((x : X) → HasNone (tree x)) → (answer : Option X) (t : Data) → t ≡ or_null tree answer → HasNone t
of_says tree each answer t is = ap has_float is ∙ or_none tree each answer

of_list_of_numbers : (call : OfNumbers) (grid : Grid) (xs : List ℕ) (t : Data) → IsNumbersAnswer call grid xs t → HasNone t
of_list_of_numbers call grid xs t is = grind (arith, or_none, no_float_in_numbers, a_box)

of_a_box : (call : OfBox) (ds : List Dimension) (b : Box) (t : Data) → IsBoxAnswer call ds b t → HasNone t
of_a_box call ds b t is = grind (arith, of_says, a_box)

-- ---- items of walks and of plans

of_page : (items : List Data) (more : Bool) → items_have_float (items_of items) ≡ false → HasNone (page_tree items more)
of_page items more none = ap (λ b. b || false) none

an_item : (walk : WalkOf) (ds : List Dimension) (chunk : List ℕ) → HasNone (item_tree walk ds chunk)
an_item walk ds chunk = grind (arith, no_float_in_numbers, a_box)

items : (walk : WalkOf) (ds : List Dimension) (chunks : List (List ℕ)) → items_have_float (items_of (item_trees walk ds chunks)) ≡ false
items Chunks ds chunks = no_float_mapped (item_tree Chunks ds) (an_item Chunks ds) chunks
items Boxes ds chunks = no_float_mapped (item_tree Boxes ds) (an_item Boxes ds) (boxed ds chunks)
items ChunksAndBoxes ds chunks = no_float_mapped (item_tree ChunksAndBoxes ds) (an_item ChunksAndBoxes ds) (boxed ds chunks)

some_taken : (count : ℕ) (xs : List Data) → items_have_float (items_of xs) ≡ false → items_have_float (items_of (take count xs)) ≡ false
some_taken zero xs none = refl
some_taken (suc count) [] none = refl
some_taken (suc count) (x ∷ xs) none =
    let both = or_parts (has_float x) (items_have_float (items_of xs)) none in
    ap₂ (λ a b. a || b) both.0 (some_taken count xs both.1)

of_a_walk : (walk : WalkOf) (ds : List Dimension) (most : ℕ) (first : Option ℕ) → HasNone (walk_page walk ds most first)
of_a_walk walk ds most None =
    let all = item_trees walk ds (chunks_of ds) in
    of_page (take most all) (nat_lt most (length all)) (some_taken most all (items walk ds (chunks_of ds)))
of_a_walk walk ds most (Some first) =
    let chunks = some_from first most (chunks_of ds) in
    of_page (item_trees walk ds chunks) (is_more first (length chunks) (count_of (chunks_of ds))) (items walk ds chunks)

-- numbers and two boxes
of_part : (chunk : List ℕ) (b other : Box)
    → (has_float (numbers_tree chunk) || (has_float (box_tree b) || (has_float (box_tree other) || (false || false)))) ≡ false
of_part chunk b other = grind (arith, no_float_in_numbers, a_box)

of_some_parts : (first in_all : ℕ) (parts : List Part) → HasNone (parts_tree first in_all parts)
of_some_parts first in_all parts =
    of_page (map part_tree parts) (is_more first (length parts) in_all)
    (no_float_mapped part_tree (λ part. of_part part.chunk.items part.in_chunk part.in_selection) parts)

of_overlap : (written : Bool) (part : Part) → HasNone (overlap_tree written part)
of_overlap written part = grind (arith, no_float_in_numbers, a_box)

of_task : (plan : TaskPlan) → HasNone (task_tree plan)
of_task plan =
    rw (
      no_float_in_numbers plan.0.source.shape,
      no_float_mapped (overlap_tree false) (of_overlap false) plan.1.0,
      no_float_mapped (overlap_tree true) (of_overlap true) plan.1.1,
    ) refl

of_tasks : (plans : List TaskPlan) (more : Bool) → HasNone (page_tree (map task_tree plans) more)
of_tasks plans more = of_page (map task_tree plans) more (no_float_mapped task_tree of_task plans)

a_number : (number : ℕ) → HasNone (number_tree number)
a_number number = or_none size_tree (λ n. refl) (counted number)

a_count : (count : CountsAlong → ℕ) (along : List CountsAlong) → HasNone (count_tree count along)
a_count count along = no_float_mapped (λ counts. number_tree (count counts)) (λ counts. a_number (count counts)) along

of_counts : (share : ShareAsked) (region : Box) (along : List CountsAlong) → HasNone (counts_tree share region along)
of_counts share region along = grind (arith, a_count, no_float_in_numbers, a_number)

-- ---- of a question

of_an_array : (shape : List ℕ) (own : Data) (asked : Asked) (kind : GridKind) (grid : Grid) (t : Data) → IsArrayAnswer shape own asked kind grid t
    → HasNone t
of_an_array shape own (question.parts encoding items lists) kind grid t is =
    ⊎_elim (λ (none, _). ap has_float none) (λ (can, in_all, some, are, tree). ap has_float tree ∙ of_some_parts (first_of items) in_all some) is.3
of_an_array shape own (question.tasks encoding copy items) kind grid t is =
    let answer = is.2 in
    ap has_float answer.tree ∙ of_tasks answer.plans (is_more (first_of items) (length answer.plans) (count_of answer.tasks))
of_an_array shape own (question.task_counts encoding copy share) kind grid t is = ap has_float is.2.tree ∙ of_counts share is.0.region is.2.counts
of_an_array shape own asked kind grid t is =
    grind (arith, of_alone, of_list_of_numbers, of_a_box, of_a_walk, of_says, or_none, no_float_in_numbers)

of_ranges : (ranges : ByteRanges) → HasNone (ranges_tree ranges)
of_ranges ranges = rw (no_float_in_numbers ranges.counts.items, no_float_in_numbers ranges.strides.items) refl

pub no_float : (question : Question) (t : Data) → IsAnswer question t → has_float t ≡ false
no_float question t is = grind (arith, of_an_array, of_says, of_ranges, no_float_in_numbers)
