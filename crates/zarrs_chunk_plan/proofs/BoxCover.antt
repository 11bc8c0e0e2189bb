-- The cover of a box, which may be empty.
use Rattle.zarrs_chunk_plan.proofs.Common.{◌≡◌, ◌≢◌, ◌↔◌, ◌⊎◌, ◌∙◌, ℕ, zero, suc, ◌+◌, ◌<◌, ◌≤◌, List, [], ◌∷◌, Some, Ok, length, replicate, ap, ap₂}
use Rattle.zarrs_chunk_plan.proofs.Common.{refl, subst, inl, ⊎_elim, arith, sym, cases_lt, length-map, length-replicate, AllByRecursion, AllZip}
use Rattle.zarrs_chunk_plan.proofs.Common.{AreWithin, Box, Contains, IsBox, IsEmptyBox, IsInside, Dimension, Holds, InBox, IsChain, array_sizes}
use Rattle.zarrs_chunk_plan.proofs.Common.{AreBelow, earlier_has, Meets, array_box, UsesFirst}
use Rattle.zarrs_chunk_base.proofs.InEach.{length_numbers}
use Rattle.zarrs_chunks.specs.Subsets.{AnswersCover, AnswersEmptyCover, LookedBox}
use Rattle.zarrs_chunks.proofs.Chains.{apart}
use Rattle.zarrs_chunk_plan.proofs.HeldBoxes.{hold_meets, meets_hold, some_chunks, uses_first, uses_none}
use Rattle.zarrs_chunk_plan.proofs.Plans.{covers_any, empty_or_some, not_empty_if_inside}

-- an array without elements has dimensions
pub some_dimension : (ds : List Dimension) → IsEmptyBox (array_box ds) → length ds ≢ 0
some_dimension ds (k, within, is) none = let many : length (array_sizes ds) ≡ length ds = length-map ds (λ d. d.array_size) in absurd (omega arith)

module _ (ds : List Dimension) (b : Box) (dimensions : IsEmptyBox b → length ds ≢ 0) (r : LookedBox)
    (if_empty : IsEmptyBox b → length ds ≢ 0 → AnswersEmptyCover ds r)
    (if_some : (¬ IsEmptyBox b) ⊎ (length ds ≡ 0) → AnswersCover ds b r) where
  -- it has as many dimensions as the grid, and names the chunks that hold elements of the box
  pub cover_many : (cover : Box) → r ≡ Ok (Some cover) → length cover.start ≡ length ds
  cover_many cover is =
      ⊎_elim
      (λ empty. ap (λ z. length z.start) (subst (AnswersEmptyCover ds) is (if_empty empty (dimensions empty))) ∙ length-replicate (length ds) 0)
      (λ some. length_numbers Holds ds cover.start b.start (subst (AnswersCover ds b) is (if_some (inl some))).1.first)
      (empty_or_some b.shape)

  pub cover_names : (cover : Box) → r ≡ Ok (Some cover) → AllByRecursion IsChain ds → IsBox b
      → (chunk : List ℕ) → IsInside cover chunk ↔ Meets ds b chunk
  cover_names cover is chains is_box =
      let covers = covers_any ds b cover chains is_box (λ empty some. subst (AnswersEmptyCover ds) is (if_empty empty some))
      (λ some. subst (AnswersCover ds b) is (if_some some))
      in
      covers.named

-- what lies in a box that begins at 0 is below its shape
pub below_from_zero : (n : ℕ) (shape chunk : List ℕ) → length shape ≡ n → AreBelow shape chunk ↔ AreWithin (replicate n 0) shape chunk
below_from_zero zero [] [] same = (λ _. tt, λ _. tt)
below_from_zero zero [] (_ ∷ _) same = (λ h. absurd h, λ h. absurd h)
below_from_zero (suc n) (size ∷ shape) [] same = (λ h. absurd h, λ h. absurd h)
below_from_zero (suc n) (size ∷ shape) (c ∷ chunk) same =
    let rest = below_from_zero n shape chunk (omega arith) in (
      λ below. let less : c < size = below.0 in (omega arith, omega arith, rest.0 below.1),
      λ within. let less : c < 0 + size = within.1 in (omega arith, rest.1 within.2),
    )
below_from_zero _ _ chunk same = absurd (omega arith)

-- no list is below one that has a 0
pub none_below_zero : (sizes list : List ℕ) → Contains sizes 0 → ¬ AreBelow sizes list
none_below_zero sizes list has below = not_empty_if_inside _ sizes list ((below_from_zero (length sizes) sizes list refl).0 below) has

-- ---- the chunks that a whole array takes up begin with the first one

first_chunk : (d : Dimension) → IsChain d → (c : ℕ) → Holds d c 0 → c ≡ 0
first_chunk d chain c here =
    ⊎_elim
    (λ (later : 0 < c).
    let gap : d.end 0 ≤ d.start c = apart d chain 0 c later here.chunk in
    let some : d.start 0 < d.end 0 = chain.not_empty 0 (earlier_has d chain 0 c (omega arith) here.chunk) in
    absurd (omega arith))
    (λ (le : c ≤ 0). omega arith)
    (cases_lt 0 c)

first_chunks : (ds : List Dimension) (chunk : List ℕ) → AllByRecursion IsChain ds → InBox ds chunk (replicate (length ds) 0)
    → chunk ≡ replicate (length ds) 0
first_chunks [] [] chains box = refl
first_chunks (d ∷ ds) (c ∷ chunk) chains box =
    ap₂ (λ x xs. x ∷ xs) (first_chunk d chains.0 c box.0) (first_chunks ds chunk chains.1 box.1)
first_chunks _ _ chains box = absurd box

pub cover_start : (ds : List Dimension) (r : LookedBox)
    → (IsEmptyBox (array_box ds) → length ds ≢ 0 → AnswersEmptyCover ds r)
    → ((¬ IsEmptyBox (array_box ds)) ⊎ (length ds ≡ 0) → AnswersCover ds (array_box ds) r)
    → (cover : Box) → r ≡ Ok (Some cover) → AllByRecursion IsChain ds → cover.start ≡ replicate (length ds) 0
cover_start ds r if_empty if_some cover is chains =
    ⊎_elim
    (λ empty. ap (λ (z : Box). z.start) (subst (AnswersEmptyCover ds) is (if_empty empty (some_dimension ds empty))))
    (λ some. first_chunks ds cover.start chains (subst (AnswersCover ds (array_box ds)) is (if_some (inl some))).1.first)
    (empty_or_some (array_sizes ds))

-- and along each dimension they are those from the first one on, as many as it has
pub cover_uses : (ds : List Dimension) (r : LookedBox)
    → (IsEmptyBox (array_box ds) → length ds ≢ 0 → AnswersEmptyCover ds r)
    → ((¬ IsEmptyBox (array_box ds)) ⊎ (length ds ≡ 0) → AnswersCover ds (array_box ds) r)
    → (cover : Box) → r ≡ Ok (Some cover) → AllByRecursion IsChain ds → IsBox (array_box ds) → AllZip UsesFirst ds cover.shape
cover_uses ds r if_empty if_some cover is chains is_array = ⊎_elim of_empty of_some (empty_or_some (array_sizes ds)) where
  of_empty : IsEmptyBox (array_box ds) → AllZip UsesFirst ds cover.shape
  of_empty empty =
      subst (λ (z : Box). AllZip UsesFirst ds z.shape) (sym (subst (AnswersEmptyCover ds) is (if_empty empty (some_dimension ds empty)))) (uses_none ds)

  of_some : (¬ IsEmptyBox (array_box ds)) → AllZip UsesFirst ds cover.shape
  of_some some =
      let is_cover = (subst (AnswersCover ds (array_box ds)) is (if_some (inl some))).1 in
      let start = first_chunks ds cover.start chains is_cover.first in
      let long : length cover.shape ≡ length ds = sym is_cover.is_box.lengths ∙ ap length start ∙ length-replicate (length ds) 0 in
      let named = cover_names ds (array_box ds) (some_dimension ds) r if_empty if_some cover is chains is_array in
      uses_first ds cover.shape long (some_chunks ds cover chains some (λ chunk. (named chunk).1))
      (λ chunk.
      let below = below_from_zero (length ds) cover.shape chunk long in (
        λ less. meets_hold ds chunk ((named chunk).0 (subst (λ first. AreWithin first cover.shape chunk) (sym start) (below.0 less))),
        λ hold. below.1 (subst (λ first. AreWithin first cover.shape chunk) start ((named chunk).1 (hold_meets ds chunk hold))),
      ))
