-- The chunks of a walk that have a box, and what is passed over.
use Rattle.std.proofs.Common.{◌≡◌, ◌∙◌, ℕ, ◌-◌, ◌&&◌, ◌<◌, ◌≤◌, Bool, true, false, cond, List, [], ◌∷◌, ◌++◌, length, length-append, map, nat_le, suc}
use Rattle.std.proofs.Common.{Some, None, Ok, le-leb, leb-true, refl, ap, ap₂, sym, subst, true≢false, arith}
use Rattle.std.proofs.lemmas.Bool.{and_parts, false_from_ne_true}
use Rattle.std.specs.List.{AllByRecursion, filter}
use Rattle.zarrs_chunk_base.specs.ArraySubset.{Box, ends}
use Rattle.zarrs_chunk_base.specs.Dimension.{Dimension, EndsAt, HasEdge, InBox, IsChain, IsEnd, IsOrigin, IsShape, StartsAt}
use Rattle.zarrs_chunk_base.specs.Greatest.{greatest, AllFit}
use Rattle.zarrs_chunk_base.proofs.InEach.{by_dimension}
use Rattle.zarrs_chunk_axes.specs.InBounds.{AreBelow}
use Rattle.zarrs_chunk_axes.specs.declared.row_major_walk.RowMajorWalk.{RowMajorWalk}
use Rattle.zarrs_chunk_axes.specs.seen.Counting.{AreAtLeast}
use Rattle.zarrs_chunk_axes.specs.seen.RowMajorWalk.{IsAtList, IsPassing, Stands, left_at, lists_from, lists_left, numbers_at, shape_of}
use Rattle.zarrs_chunk_axes.proofs.RowMajor.{all_after_below}
use Rattle.zarrs_chunks.specs.Subsets.{AnswersSubset, HasNoBox, LookedBox, Spans}
use Rattle.zarrs_chunks.specs.Walks.{box_at, boxed, ends_within, lengths_at, starts_at}
use Rattle.zarrs_chunks.proofs.Chains.{in_chain}
use Rattle.zarrs_chunks.proofs.Subsets.{is_shape}

-- a chunk's starts are those of its box, and so are its lengths
starts_are : (ds : List Dimension) (chunk start : List ℕ) → IsOrigin ds chunk start → start ≡ starts_at ds chunk
starts_are =
    by_dimension StartsAt (λ ds chunk start. start ≡ starts_at ds chunk) refl
    (λ d c s ds chunk start here rest. ap₂ (λ x xs. x ∷ xs) (sym here.start) rest)

lengths_are : (ds : List Dimension) (chunk shape : List ℕ) → IsShape ds chunk shape → shape ≡ lengths_at ds chunk
lengths_are =
    by_dimension HasEdge (λ ds chunk shape. shape ≡ lengths_at ds chunk) refl
    (λ d c n ds chunk shape here rest.
    let long = here.edge in
    let edge : n ≡ d.end c - d.start c = omega arith in
    ap₂ (λ x xs. x ∷ xs) edge rest)

pub box_is : (ds : List Dimension) (chunk : List ℕ) (b : Box) → Spans ds chunk chunk b → b ≡ box_at ds chunk
box_is ds chunk b spans =
    let start = starts_are ds chunk b.start spans.start in
    let shape = lengths_are ds chunk b.shape (is_shape ds chunk b.start b.shape spans.is_box.lengths spans.start spans.end) in
    ap₂ (λ start shape. record { start = start; shape = shape }) start shape

-- where each end fits, a chunk ends within the numbers
ends_fit : (ds : List Dimension) (chunk xs : List ℕ) → IsEnd ds chunk xs → AllFit xs → ends_within ds chunk ≡ true
ends_fit =
    by_dimension EndsAt (λ ds chunk xs. AllFit xs → ends_within ds chunk ≡ true) (λ fit. refl)
    (λ d c x ds chunk xs here rest fit.
    let end = here.end in
    let first : d.end c ≤ greatest = let low = fit.0 in omega arith in
    ap₂ (λ a b. a && b) (le-leb (d.end c) greatest first) (rest fit.1))

pub box_fits : (ds : List Dimension) (chunk : List ℕ) (b : Box) → Spans ds chunk chunk b → ends_within ds chunk ≡ true
box_fits ds chunk b spans = ends_fit ds chunk (ends b.start b.shape) spans.end spans.is_box.fits

-- a counted chunk that ends within the numbers has a box
parts : (ds : List Dimension) (chunk : List ℕ) → AllByRecursion IsChain ds → AreBelow (map (λ d. d.grid_size) ds) chunk → ends_within ds chunk ≡ true
    → IsOrigin ds chunk (starts_at ds chunk) × IsEnd ds chunk (ends (starts_at ds chunk) (lengths_at ds chunk))
    × (length (starts_at ds chunk) ≡ length (lengths_at ds chunk)) × AllFit (ends (starts_at ds chunk) (lengths_at ds chunk))
parts [] [] chains below fit = (tt, tt, refl, tt)
parts (d ∷ ds) (c ∷ chunk) chains below fit =
    let both = and_parts (nat_le (d.end c) greatest) (ends_within ds chunk) fit in
    let (starts, finish, same, all) = parts ds chunk chains.1 below.1 both.1 in
    let has = chains.0.counted c below.0 in
    let some : d.start c < d.end c = chains.0.not_empty c has in
    let here : d.end c ≤ greatest = leb-true (d.end c) greatest both.0 in
    ((record { chunk = has; start = refl }, starts), (record { chunk = has; end = omega arith }, finish), ap suc same, (omega arith, all))
parts _ _ chains below fit = absurd below

pub has_box : (ds : List Dimension) (chunk : List ℕ) → AllByRecursion IsChain ds → AreBelow (map (λ d. d.grid_size) ds) chunk
    → ends_within ds chunk ≡ true → Spans ds chunk chunk (box_at ds chunk)
has_box ds chunk chains below fit =
    let (starts, finish, same, all) = parts ds chunk chains below fit in
    record { is_box = record { lengths = same; fits = all }; start = starts; end = finish }

-- so one without a box doesn't
pub no_box : (ds : List Dimension) (chunk : List ℕ) → AllByRecursion IsChain ds → AreBelow (map (λ d. d.grid_size) ds) chunk → HasNoBox ds chunk
    → ends_within ds chunk ≡ false
no_box ds chunk chains below none = false_from_ne_true (ends_within ds chunk) (λ fit. none (box_at ds chunk) (has_box ds chunk chains below fit))

-- and neither does a later one
later_fits : (ds : List Dimension) (chunk later : List ℕ) → AllByRecursion IsChain ds → AreBelow (map (λ d. d.grid_size) ds) later
    → AreAtLeast chunk later → ends_within ds later ≡ true → ends_within ds chunk ≡ true
later_fits (d ∷ ds) (c ∷ chunk) (e ∷ later) chains below low fit =
    let both = and_parts (nat_le (d.end e) greatest) (ends_within ds later) fit in
    let here : d.end e ≤ greatest = leb-true (d.end e) greatest both.0 in
    let (_, order) = in_chain d chains.0 c e low.0 (chains.0.counted e below.0) in
    let first : d.end c ≤ greatest = omega arith in
    ap₂ (λ a b. a && b) (le-leb (d.end c) greatest first) (later_fits ds chunk later chains.1 below.1 low.1 both.1)
later_fits (_ ∷ _) (_ ∷ _) [] chains below low fit = absurd below
later_fits _ _ later chains below low fit = refl

none_later : (ds : List Dimension) (chunk later : List ℕ) → AllByRecursion IsChain ds → AreBelow (map (λ d. d.grid_size) ds) later
    → AreAtLeast chunk later → ends_within ds chunk ≡ false → ends_within ds later ≡ false
none_later ds chunk later chains below low none =
    false_from_ne_true (ends_within ds later) (λ fit. true≢false (sym (later_fits ds chunk later chains below low fit) ∙ none))

-- chunks that don't fit are passed over
pub all_passed_over : {X : Type 0} (test : X → Bool) (passed left : List X) → AllByRecursion (λ x. test x ≡ false) passed
    → filter test (passed ++ left) ≡ filter test left
all_passed_over test [] left none = refl
all_passed_over test (x ∷ passed) left none =
    ap (λ b. cond b (x ∷ filter test (passed ++ left)) (filter test (passed ++ left))) none.0 ∙ all_passed_over test passed left none.1

-- an element of the array lies in the box of a chunk that is counted
pub counted_home : (ds : List Dimension) (index : List ℕ) → AllByRecursion IsChain ds → AreBelow (map (λ d. d.array_size) ds) index
    → (chunk : List ℕ) × AreBelow (map (λ d. d.grid_size) ds) chunk × InBox ds chunk index
counted_home [] [] chains below = ([], tt, tt)
counted_home (d ∷ ds) (i ∷ index) chains below =
    let (c, counted, here) = chains.0.reaches i below.0 in
    let (chunk, all, box) = counted_home ds index chains.1 below.1 in
    (c ∷ chunk, (counted, all), (here, box))
counted_home _ _ chains below = absurd below

-- ---- a walk on its way to a chunk that has a box

module _ {X : Type 0} where
  first_part : (P : X → Type 0) (xs ys : List X) → AllByRecursion P (xs ++ ys) → AllByRecursion P xs
  first_part P [] ys all = tt
  first_part P (x ∷ xs) ys all = (all.0, first_part P xs ys all.1)

  both_hold : (P Q R : X → Type 0) → ((x : X) → P x → Q x → R x) → (xs : List X) → AllByRecursion P xs → AllByRecursion Q xs → AllByRecursion R xs
  both_hold P Q R follows [] first second = tt
  both_hold P Q R follows (x ∷ xs) first second = (follows x first.0 second.0, both_hold P Q R follows xs first.1 second.1)

-- what is passed over leaves fewer lists
pub passes_fewer : (old walk : RowMajorWalk) (found : Bool) (new : RowMajorWalk) (passed : List (List ℕ))
    → length (lists_from true walk) ≤ length (lists_left old) → IsPassing walk found new passed
    → length (lists_from found new) ≤ length (lists_left old)
passes_fewer old walk found new passed low is =
    let shorter = ap length is.all in
    let sum = length-append passed (lists_from found new) in
    omega arith

-- from where it was to where it is, it came by no chunk that has a box
pub record ComesBy (ds : List Dimension) (old : RowMajorWalk) (found : Bool) (new : RowMajorWalk) : Type 0 where
  pub stands : Stands found new
  pub boxed : boxed ds (lists_left old) ≡ boxed ds (lists_from found new)
  pub fewer : length (lists_from found new) ≤ length (lists_left old)

-- the list at which a walk stands and those that are left are below its shape
all_below_shape : (walk : RowMajorWalk) → IsAtList walk → AllByRecursion (AreBelow (shape_of walk)) (numbers_at walk ∷ lists_left walk)
all_below_shape walk at = (
  at.below,
  subst (λ turn. AllByRecursion (AreBelow (shape_of walk)) (left_at turn (shape_of walk) (numbers_at walk))) (sym at.next)
      (all_after_below (shape_of walk) (numbers_at walk) at.below),
)

module _ (ds : List Dimension) (chains : AllByRecursion IsChain ds) (walk : RowMajorWalk) (at : IsAtList walk)
    (over : shape_of walk ≡ map (λ d. d.grid_size) ds) where
  -- where the chunk has no box, neither has one that is passed over
  none_passed : (passed others : List (List ℕ)) → numbers_at walk ∷ lists_left walk ≡ passed ++ others
      → AllByRecursion (AreAtLeast (numbers_at walk)) passed
      → HasNoBox ds (numbers_at walk) → AllByRecursion (λ chunk. ends_within ds chunk ≡ false) passed
  none_passed passed others all low none =
      let chunk = numbers_at walk in
      let below = subst (λ shape. AllByRecursion (AreBelow shape) (chunk ∷ lists_left walk)) over (all_below_shape walk at) in
      let no = no_box ds chunk chains below.0 none in
      both_hold (AreBelow (map (λ d. d.grid_size) ds)) (AreAtLeast chunk) (λ later. ends_within ds later ≡ false)
      (λ later below low. none_later ds chunk later chains below low no) passed
      (first_part (AreBelow (map (λ d. d.grid_size) ds)) passed others (subst (AllByRecursion (AreBelow (map (λ d. d.grid_size) ds))) all below)) low

  pub passes : (old : RowMajorWalk) (found : Bool) (new : RowMajorWalk) (passed : List (List ℕ)) → ComesBy ds old true walk
      → IsPassing walk found new passed → Stands found new → HasNoBox ds (numbers_at walk) → ComesBy ds old found new
  passes old found new passed by is stands none = record {
    stands = stands;
    boxed = by.boxed ∙ ap (boxed ds) is.all
        ∙ all_passed_over (ends_within ds) passed (lists_from found new) (none_passed passed (lists_from found new) is.all is.at_least none);
    fewer = passes_fewer old walk found new passed by.fewer is;
  }

-- a chunk that has a box is the next of those that do
pub gives_box : (ds : List Dimension) (old new : RowMajorWalk) (b : Box) → ComesBy ds old true new → Spans ds (numbers_at new) (numbers_at new) b
    → (boxed ds (lists_left old) ≡ numbers_at new ∷ boxed ds (lists_left new)) × (b ≡ box_at ds (numbers_at new))
    × (length (lists_left new) < length (lists_left old))
gives_box ds old new b by spans =
    let chunk = numbers_at new in
    let rest = boxed ds (lists_left new) in
    let low = by.fewer in
    (by.boxed ∙ ap (λ fit. cond fit (chunk ∷ rest) rest) (box_fits ds chunk b spans), box_is ds chunk b spans, omega arith)

-- what a look-up of a box finds and doesn't find
pub found_box : (ds : List Dimension) (chunk : List ℕ) (r : LookedBox) (b : Box) → AnswersSubset ds chunk r → r ≡ Ok (Some b) → Spans ds chunk chunk b
found_box ds chunk r b answers is = let found = subst (AnswersSubset ds chunk) is answers in found.1

pub found_none : (ds : List Dimension) (chunk : List ℕ) (r : LookedBox) → AnswersSubset ds chunk r → r ≡ Ok None → HasNoBox ds chunk
found_none ds chunk r answers is = let found = subst (AnswersSubset ds chunk) is answers in found.1
