-- The items of a walk over the chunks of a grid: the first ones, and those of chunks from one of them on.
use Rattle.std.proofs.Common.{◌≡◌, ◌∙◌, ℕ, zero, suc, ◌+◌, ◌-◌, ◌<◌, ◌≤◌, Bool, true, false, List, [], ◌∷◌, ◌++◌, Option, Some, None, Result}
use Rattle.std.proofs.Common.{Err, Ok, IfOk, ap, ap₂, arith, cond, option_to_list, slice_get}
use Rattle.std.proofs.Common.{drop, length, length-append, map, min, refl, replicate, subst, sym, take}
use Rattle.std.proofs.lemmas.List.{length-drop, length-map, length-take, map-append}
use Rattle.std.specs.List.{AllByRecursion, filter}
use Rattle.std.specs.declared.alloc.AllocError.{AllocError}
use Rattle.serde_json.specs.Data.{Data}
use Rattle.serde_json.specs.View.{view}
use Rattle.serde_json.specs.declared.value.Value.{Value}
use Rattle.zarrs_chunk_base.specs.Dimension.{Dimension, IsChain, grid_sizes}
use Rattle.zarrs_chunk_base.specs.Greatest.{greatest}
use Rattle.zarrs_chunk_axes.specs.InBounds.{AreBelow}
use Rattle.zarrs_chunk_axes.specs.RowMajor.{row_major}
use Rattle.zarrs_chunk_axes.proofs.RowMajor.{all_below, all_follow}
use Rattle.zarrs_chunks.specs.Subsets.{AnswersSubset, LookedBox}
use Rattle.zarrs_chunks.specs.Walks.{box_at, boxed, chunks_in, chunks_of, counted_from, ends_within}
use Rattle.zarrs_chunks.proofs.ChunksInBoxes.{length_below}
use Rattle.zarrs_chunks.proofs.FittingChunks.{box_fits, box_is, found_box, found_none, no_box}
use Rattle.zarrs_chunk_base.specs.ArraySubset.{Box}
use Rattle.zarrs_chunk_plan.specs.ArrayBoxes.{all_chunks_box}
use Rattle.zarrs_chunk_plan.proofs.Rechunkings.{counted_from_zeros}
use Rattle.zarrs_chunk_questions.specs.Pages.{some_from, is_more, item_tree, item_trees, count_of, page_from, page_tree}
use Rattle.zarrs_chunk_questions.specs.declared.call.WalkOf.{WalkOf}
use Rattle.zarrs_chunk_questions.specs.declared.call.WalkOf.TheVariants.{Boxes, Chunks, ChunksAndBoxes}
use Rattle.zarrs_chunk_questions.specs.seen.Walked.{IsFirstPage, IsItemOf}

-- ---- from the beginning

-- of all that a walk has left
pub first_of_all : (most too_many : ℕ) (left items : List Data) → left ≡ items → (result : Result (Option Value) AllocError)
    → IfOk result (IsFirstPage most too_many left) → IfOk result (IsFirstPage most too_many items)
first_of_all most too_many left items same result is = subst (λ xs. IfOk result (IsFirstPage most too_many xs)) same is

pub each_of_each : {X Y Z : Type 0} (f : X → Y) (tree : Y → Z) (xs : List X) → map tree (map f xs) ≡ map (λ x. tree (f x)) xs
each_of_each f tree [] = refl
each_of_each f tree (x ∷ xs) = ap (λ ys. tree (f x) ∷ ys) (each_of_each f tree xs)

-- ---- what is given of one chunk

module _ (ds : List Dimension) (chunk : List ℕ) (answer : LookedBox) (answers : AnswersSubset ds chunk answer) where
  -- a chunk that has a box
  pub with_box : (b : Box) → answer ≡ Ok (Some b) → (boxed ds (chunk ∷ []) ≡ chunk ∷ []) × (b ≡ box_at ds chunk)
  with_box b found =
      let spans = found_box ds chunk answer b answers found in
      (ap (λ fits. cond fits (chunk ∷ []) []) (box_fits ds chunk b spans), box_is ds chunk b spans)

  -- one that has none
  pub without_box : AllByRecursion IsChain ds → AreBelow (grid_sizes ds) chunk → answer ≡ Ok None → boxed ds (chunk ∷ []) ≡ []
  without_box chains below none =
      ap (λ fits. cond fits (chunk ∷ []) []) (no_box ds chunk chains below (found_none ds chunk answer answers none))

-- ---- of the chunks that a grid counts

map_same : {X : Type 0} (f : X → X) (xs : List X) → AllByRecursion (λ x. f x ≡ x) xs → map f xs ≡ xs
map_same f [] all = refl
map_same f (x ∷ xs) all = ap₂ (λ y ys. y ∷ ys) all.0 (map_same f xs all.1)

-- those in the box of all are all
pub all_counted : (ds : List Dimension) → chunks_in (all_chunks_box ds) ≡ chunks_of ds
all_counted ds =
    let sizes = grid_sizes ds in
    map_same (counted_from (replicate (length ds) 0)) (row_major sizes)
    (all_follow (AreBelow sizes) (λ xs. counted_from (replicate (length ds) 0) xs ≡ xs)
    (λ xs below. counted_from_zeros (length ds) xs (length_below sizes xs below ∙ length-map ds (λ d. d.grid_size)))
    (row_major sizes) (all_below sizes))

-- each lies below the grid's shape
pub all_below_grid : (ds : List Dimension) → AllByRecursion (AreBelow (grid_sizes ds)) (chunks_in (all_chunks_box ds))
all_below_grid ds = rw (all_counted ds) (all_below (grid_sizes ds))

-- how many there are, as they are counted below the grid's shape
pub counted_all : (ds : List Dimension) (shape : List ℕ) (in_all : ℕ) → shape ≡ grid_sizes ds → in_all ≡ min (length (row_major shape)) greatest
    → in_all ≡ count_of (chunks_of ds)
counted_all ds shape in_all same counted = counted ∙ ap (λ sizes. min (length (row_major sizes)) greatest) same

-- ---- the items of chunks, one chunk after another

filter_append : {X : Type 0} (p : X → Bool) (xs ys : List X) → filter p (xs ++ ys) ≡ filter p xs ++ filter p ys
filter_append p [] ys = refl
filter_append p (x ∷ xs) ys = more (p x) (filter_append p xs ys) where
  more : (b : Bool) → filter p (xs ++ ys) ≡ filter p xs ++ filter p ys → cond b (x ∷ filter p (xs ++ ys)) (filter p (xs ++ ys)) ≡ cond b (x ∷ filter p xs) (filter p xs) ++ filter p ys
  more true rest = ap (λ zs. x ∷ zs) rest
  more false rest = rest

pub no_items : (walk : WalkOf) (ds : List Dimension) → item_trees walk ds [] ≡ []
no_items Chunks ds = refl
no_items Boxes ds = refl
no_items ChunksAndBoxes ds = refl

pub items_append : (walk : WalkOf) (ds : List Dimension) (xs ys : List (List ℕ))
    → item_trees walk ds (xs ++ ys) ≡ item_trees walk ds xs ++ item_trees walk ds ys
items_append Chunks ds xs ys = map-append (item_tree Chunks ds) xs ys
items_append Boxes ds xs ys =
    ap (map (item_tree Boxes ds)) (filter_append (ends_within ds) xs ys) ∙ map-append (item_tree Boxes ds) (boxed ds xs) (boxed ds ys)
items_append ChunksAndBoxes ds xs ys =
    ap (map (item_tree ChunksAndBoxes ds)) (filter_append (ends_within ds) xs ys)
    ∙ map-append (item_tree ChunksAndBoxes ds) (boxed ds xs) (boxed ds ys)

none_taken : (n : ℕ) (xs : List (List ℕ)) → xs ≡ [] → take n xs ≡ xs
none_taken zero xs is = sym is
none_taken (suc n) [] is = refl
none_taken (suc n) (x ∷ xs) is = let long = ap length is in absurd (omega arith)

-- those of fewer chunks are no more
pub fewer_items : (walk : WalkOf) (ds : List Dimension) (few many : ℕ) (xs : List (List ℕ)) → few ≤ many
    → length (item_trees walk ds (take few xs)) ≤ length (item_trees walk ds (take many xs))
fewer_items walk ds few many xs le =
    let same : take many xs ≡ take few xs ++ take (many - few) (drop few xs) = take_parts few many xs le in
    let both = ap length (ap (item_trees walk ds) same ∙ items_append walk ds (take few xs) (take (many - few) (drop few xs))) in
    let sum = length-append (item_trees walk ds (take few xs)) (item_trees walk ds (take (many - few) (drop few xs))) in
    omega arith
  where
    take_parts : (few many : ℕ) (xs : List (List ℕ)) → few ≤ many → take many xs ≡ take few xs ++ take (many - few) (drop few xs)
    take_parts zero many xs le = let same : many - 0 ≡ many = omega arith in rw same refl
    take_parts (suc few) zero xs le = absurd (omega arith)
    take_parts (suc few) (suc many) [] le = sym (none_taken (suc many - suc few) [] refl)
    take_parts (suc few) (suc many) (x ∷ xs) le =
        let less : suc many - suc few ≡ many - few = omega arith in
        rw less (ap (λ ys. x ∷ ys) (take_parts few many xs (omega arith)))

-- the items of the chunk with a number
pub item_of_number : (walk : WalkOf) (ds : List Dimension) (number : ℕ) (chunk : List ℕ) → number < count_of (chunks_of ds)
    → slice_get (chunks_of ds) number ≡ Some chunk → (result : Result (Option Value) AllocError) → IfOk result (IsItemOf walk ds chunk)
    → IfOk result (λ found. map view (option_to_list found) ≡ item_trees walk ds (some_from number 1 (chunks_of ds)))
item_of_number walk ds number chunk below at (Err _) is = tt
item_of_number walk ds number chunk below at (Ok found) is = of_found found is ∙ ap (item_trees walk ds) (sym one) where
  taken_one : (n : ℕ) (xs : List (List ℕ)) → slice_get xs n ≡ Some chunk → take 1 (drop n xs) ≡ chunk ∷ []
  taken_one n [] is = absurd (grind arith)
  taken_one zero (x ∷ xs) is = ap (λ y. y ∷ []) (grind arith)
  taken_one (suc n) (x ∷ xs) is = taken_one n xs is

  one : some_from number 1 (chunks_of ds) ≡ chunk ∷ []
  one =
      let single : min (count_of (chunks_of ds) - number) 1 ≡ 1 = omega arith in
      ap (λ n. take n (drop number (chunks_of ds))) single ∙ taken_one number (chunks_of ds) at

  of_found : (found : Option Value) → IsItemOf walk ds chunk found → map view (option_to_list found) ≡ item_trees walk ds (chunk ∷ [])
  of_found (Some item) is = sym is
  of_found None is = sym is

-- with the item of one chunk more
pub one_pushed : (items more : List Value) (found : Option Value) (trees next : List Data) → map view items ≡ trees
    → map view (option_to_list found) ≡ next → more ≡ items ++ option_to_list found → map view more ≡ trees ++ next
one_pushed items more found trees next same also is =
    ap (map view) is ∙ map-append view items (option_to_list found) ∙ ap₂ (λ xs ys. xs ++ ys) same also

-- ---- from a number on, so many chunks

module _ (walk : WalkOf) (ds : List Dimension) (first : ℕ) where
  abbrev pub items_until : ℕ → List Data
  items_until passed = item_trees walk ds (take passed (drop first (chunks_of ds)))

  pub items_more : (passed : ℕ) → first + passed < count_of (chunks_of ds)
      → items_until (passed + 1) ≡ items_until passed ++ item_trees walk ds (some_from (first + passed) 1 (chunks_of ds))
  items_more passed below =
      let all = chunks_of ds in
      let one : min (count_of all - (first + passed)) 1 ≡ 1 = omega arith in
      let next : some_from (first + passed) 1 all ≡ take 1 (drop passed (drop first all)) =
      ap (λ n. take n (drop (first + passed) all)) one ∙ ap (take 1) (sym (drop-drop first passed all)) in
      ap (item_trees walk ds) (take_one_more passed (drop first all)) ∙ items_append walk ds (take passed (drop first all)) _
      ∙ ap (λ xs. items_until passed ++ item_trees walk ds xs) (sym next)
    where
      take_one_more : (n : ℕ) (xs : List (List ℕ)) → take (n + 1) xs ≡ take n xs ++ take 1 (drop n xs)
      take_one_more zero xs = refl
      take_one_more (suc n) [] = let more : suc n + 1 ≡ suc (n + 1) = omega arith in rw more refl
      take_one_more (suc n) (x ∷ xs) =
          let more : suc n + 1 ≡ suc (n + 1) = omega arith in rw more (ap (λ ys. x ∷ ys) (take_one_more n xs))

      drop-drop : (m n : ℕ) (xs : List (List ℕ)) → drop n (drop m xs) ≡ drop (m + n) xs
      drop-drop zero n xs = let same : 0 + n ≡ n = omega arith in rw same refl
      drop-drop (suc m) zero [] = let same : suc m + 0 ≡ suc m = omega arith in rw same refl
      drop-drop (suc m) (suc n) [] = let same : suc m + suc n ≡ suc (m + suc n) = omega arith in rw same refl
      drop-drop (suc m) n (x ∷ xs) = let same : suc m + n ≡ suc (m + n) = omega arith in rw same (drop-drop m n xs)

  -- too many of some are too many of all
  pub too_many_items : (most passed many too_many : ℕ) (items : List Data) → passed + 1 ≤ min (count_of (chunks_of ds) - first) most
      → items ≡ items_until (passed + 1) → many ≡ length items → many ≡ too_many
      → too_many ≤ length (item_trees walk ds (some_from first most (chunks_of ds)))
  too_many_items most passed many too_many items within are counted full =
      let fewer = fewer_items walk ds (passed + 1) (min (count_of (chunks_of ds) - first) most) (drop first (chunks_of ds)) within in
      let long = ap length are in
      omega arith

  -- at the end they are the page
  pub items_page : (most count in_all : ℕ) (items : List Data) (t : Data) → in_all ≡ count_of (chunks_of ds) → count ≡ min most (in_all - first)
      → items ≡ items_until count → t ≡ page_tree items (is_more first count in_all) → t ≡ page_from walk ds first most
  items_page most count in_all items t counted wanted are is =
      let all = chunks_of ds in
      let same : count ≡ min (count_of all - first) most = rw (← counted) (omega arith) in
      let within : count ≤ length (drop first all) = within_all in
      let long : length (take count (drop first all)) ≡ count = length-take count (drop first all) ∙ omega arith in
      is ∙ ap (λ xs. page_tree xs (is_more first count in_all)) are
      ∙ ap₂ (λ n m. page_tree (items_until count) (is_more first n m)) (sym long) counted
      ∙ ap (λ n. page_tree (items_until n) (is_more first (length (take n (drop first all))) (count_of all))) same
    where
      within_all : count ≤ length (drop first (chunks_of ds))
      within_all = let dropped = length-drop first (chunks_of ds) in omega arith
