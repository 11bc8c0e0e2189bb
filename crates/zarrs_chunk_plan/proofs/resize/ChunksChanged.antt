-- The chunks that a walk over the changes of a resize has left.
use Rattle.zarrs_chunk_plan.proofs.Common.{◌≡◌, ◌≢◌, ◌↔◌, ◌∙◌, ℕ, suc, ◌+◌, ◌<◌, ◌≤◌, ◌^◌, List, [], ◌∷◌, Some, None, Option, length, zip}
use Rattle.zarrs_chunk_plan.proofs.Common.{length-append, Bool, IsTrue, true, false, drop, get_or, map, ◌++◌, refl, ap, subst, sym, ⊎_elim, arith}
use Rattle.zarrs_chunk_plan.proofs.Common.{drop-cons, nil_from_length, same_Some, AllByRecursion, Box, IsEmptyBox, Dimension, greatest, AreBelow}
use Rattle.zarrs_chunk_plan.proofs.Common.{row_major, chunks_in, counted_from, head_some, tail_some, counted, IsChanged, IsKept, Change}
use Rattle.zarrs_chunk_plan.proofs.Common.{chunks_of_boxes, mul-le-mul_right}
use Rattle.std.proofs.Common.{is_some}
use Rattle.std.proofs.Math.ListN.{drop_of_length-le}
use Rattle.std.proofs.lemmas.Bool.{true≢false}
use Rattle.std.proofs.lemmas.Option.{none-some}
use Rattle.std.specs.Option.{SomeIff}
use Rattle.zarrs_chunk_plan.specs.Resize.{MayHold}
use Rattle.zarrs_chunk_plan.specs.declared.resize.plan.ChunkContents.{ChunkContents}
use Rattle.zarrs_chunk_plan.specs.seen.Changes.{what_becomes}
use Rattle.zarrs_chunk_plan.proofs.ByNumber.{as_many, counted_cases, length-shape}
use Rattle.zarrs_chunk_plan.proofs.shares.Between.{none_below}

-- each number is below its size exactly where all are
pub all_below : (sizes numbers : List ℕ) → length numbers ≡ length sizes
    → AllByRecursion (λ p. p.0 < p.1) (zip numbers sizes) ↔ AreBelow sizes numbers
all_below [] [] same = (λ _. tt, λ _. tt)
all_below (size ∷ sizes) (n ∷ numbers) same =
    let rest = all_below sizes numbers (omega arith) in (λ all. (all.0, rest.0 all.1), λ below. (below.0, rest.1 below.1))
all_below _ _ same = absurd (omega arith)

-- a box that isn't empty has a chunk
some_below : (shape : List ℕ) → (¬ IsEmptyBox (record { start = []; shape = shape })) → 0 < length (row_major shape)
unfolding row_major
some_below [] some = omega arith
some_below (n ∷ shape) some =
    let any : 0 < n = head_some n shape some in
    let rest = some_below shape (tail_some n shape some) in
    let long = length-shape n shape in
    omega (arith, mul-le-mul_right {m = 1} {n = n} (length (row_major shape)) (omega arith))

pub some_chunk : (b : Box) → (¬ IsEmptyBox b) → chunks_in b ≢ []
some_chunk b some none =
    let many = as_many b.start b.shape in
    let no_chunks = ap length none in
    let any = some_below b.shape some in
    absurd (omega arith)

-- the chunks of the boxes from one on are its own and those of the boxes behind it
pub next_box : (boxes : List Box) (k : ℕ) (d : Box) → k < length boxes
    → chunks_of_boxes (drop k boxes) ≡ chunks_in (get_or boxes k d) ++ chunks_of_boxes (drop (k + 1) boxes)
next_box boxes k d within = ap chunks_of_boxes (drop-cons boxes k d within)
    ∙ ap (λ n. chunks_in (get_or boxes k d) ++ chunks_of_boxes (drop n boxes)) (let next : suc k ≡ k + 1 = omega arith in next)

-- ---- counts

pub sum_counted : (m n : ℕ) (sum : Option ℕ) → SomeIff sum (m + n < 2 ^ 64) (m + n) → sum ≡ counted (m + n)
sum_counted m n (Some sum) is = let cases = counted_cases (m + n) in grind arith
sum_counted m n None is = let cases = counted_cases (m + n) in grind arith

pub counted_is : (m count : ℕ) → Some count ≡ counted m → (count ≡ m) × (m ≤ greatest)
counted_is m count is =
    ⊎_elim (λ (fits, some). (same_Some count m (is ∙ some), fits)) (λ (past, none). absurd (none-some count (sym (is ∙ none)))) (counted_cases m)

pub not_counted : (m n : ℕ) → None ≡ counted m → counted (m + n) ≡ None
not_counted m n is =
    let cases = counted_cases m in
    let all = counted_cases (m + n) in
    grind arith

-- so many were counted, and one box more
pub one_box_counted : (boxes : List Box) (k n count all : ℕ) (b : Box) → k < length boxes → get_or boxes k b ≡ b
    → count ≡ length (row_major b.shape) → n + length (chunks_of_boxes (drop k boxes)) ≡ all
    → (n + count) + length (chunks_of_boxes (drop (k + 1) boxes)) ≡ all
one_box_counted boxes k n count all b within is counts so_far =
    let split : chunks_of_boxes (drop k boxes) ≡ chunks_in b ++ chunks_of_boxes (drop (k + 1) boxes) =
    next_box boxes k b within ∙ ap (λ (x : Box). chunks_in x ++ chunks_of_boxes (drop (k + 1) boxes)) is
    in
    let long = ap length split ∙ length-append (chunks_in b) (chunks_of_boxes (drop (k + 1) boxes)) in
    let many = as_many b.start b.shape in
    omega arith

pub all_counted : (boxes : List Box) (k n : ℕ) → length boxes ≤ k
    → n + length (chunks_of_boxes (drop k boxes)) ≡ length (chunks_of_boxes boxes) → n ≡ length (chunks_of_boxes boxes)
all_counted boxes k n ended so_far =
    let none : length (chunks_of_boxes (drop k boxes)) ≡ 0 = ap (λ (xs : List Box). length (chunks_of_boxes xs)) (drop_of_length-le boxes ended) in
    omega arith

pub zero_counted : Some 0 ≡ counted 0
zero_counted = ⊎_elim (λ (low, some). sym some) (λ (past, none). absurd (omega arith)) (counted_cases 0)

-- ---- what becomes of a chunk

module _ (ds es : List Dimension) (chunk : List ℕ) where
  pub becomes : (before after : Option ChunkContents) (kept : Bool) (what : Change) → MayHold ds chunk before → MayHold es chunk after
      → (IsTrue kept ↔ IsKept ds es chunk) → what_becomes (is_some before) (is_some after) kept ≡ Some what → IsChanged ds es chunk what
  becomes (Some b) (Some a) true what held holds tells is = subst (IsChanged ds es chunk) (same_Some _ _ is) (tells.0 refl)
  becomes (Some b) (Some a) false what held holds tells is =
      subst (IsChanged ds es chunk) (same_Some _ _ is) (held.0, holds.0, λ kept. true≢false (sym (tells.1 kept)))
  becomes (Some b) None kept what held holds tells is = subst (IsChanged ds es chunk) (same_Some _ _ is) (held.0, holds)
  becomes None (Some a) kept what held holds tells is = subst (IsChanged ds es chunk) (same_Some _ _ is) (holds.0, held)
  becomes None None kept what held holds tells is = absurd (none-some what is)

-- ---- the boxes to come

module _ (boxes : List Box) (k : ℕ) (b : Box) (within : k < length boxes) (is : get_or boxes k b ≡ b) (before : List (List ℕ)) (none : before ≡ []) where
  to_come : before ++ chunks_of_boxes (drop k boxes) ≡ chunks_in b ++ chunks_of_boxes (drop (k + 1) boxes)
  to_come =
      ap (λ xs. xs ++ chunks_of_boxes (drop k boxes)) none ∙ next_box boxes k b within
      ∙ ap (λ (x : Box). chunks_in x ++ chunks_of_boxes (drop (k + 1) boxes)) is

  -- an empty box is passed over
  pub passed : IsEmptyBox b → before ++ chunks_of_boxes (drop (k + 1) boxes) ≡ before ++ chunks_of_boxes (drop k boxes)
  passed empty =
      let nothing : chunks_in b ≡ [] = ap (map (counted_from b.start)) (none_below b.shape empty) in
      rw none (sym (ap (λ xs. xs ++ chunks_of_boxes (drop k boxes)) (sym none) ∙ to_come ∙ ap (λ xs. xs ++ chunks_of_boxes (drop (k + 1) boxes)) nothing))

  -- another one has chunks to come
  pub some_to_come : (¬ IsEmptyBox b) → before ++ chunks_of_boxes (drop k boxes) ≢ []
  some_to_come some nothing =
      let long = length-append (chunks_in b) (chunks_of_boxes (drop (k + 1) boxes)) in
      let no_chunks = ap length (sym to_come ∙ nothing) in
      some_chunk b some (nil_from_length (chunks_in b) (omega arith))
