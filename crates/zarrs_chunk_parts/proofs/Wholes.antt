-- Whether a box has all elements of an array that a chunk holds.
use Rattle.std.proofs.Common.{◌≡◌, ◌↔◌, ℕ, zero, suc, ◌+◌, ◌-◌, ◌<◌, ◌≤◌, Bool, true, false, IsTrue}
use Rattle.std.proofs.Common.{List, [], ◌∷◌, length, min, refl, sym, true≢false, ⊎_elim, arith}
use Rattle.std.proofs.lemmas.Bool.{cases_lt}
use Rattle.std.specs.Bool.{MatchBool}
use Rattle.std.specs.List.{AllByRecursion, AllWithin, HoldsAt, zip}
use Rattle.zarrs_chunk_base.specs.ArraySubset.{AreWithin, Box}
use Rattle.zarrs_chunk_axes.specs.InBounds.{AreBelow}
use Rattle.zarrs_chunk_parts.specs.seen.Shared.{HoldSome, HoldsRest, Reaches}

-- ---- a test of each of a list

module _ {X : Type 0} (P : X → Type 0) where
  all_from_within : (xs : List X) → AllWithin P xs 0 (length xs) → AllByRecursion P xs
  all_from_within [] all = tt
  all_from_within (x ∷ xs) all = (all 0 x (omega arith) (omega arith), all_from_within xs (λ k d _ below. all (suc k) d (omega arith) (omega arith)))

  not_at : (xs : List X) (k : ℕ) → k < length xs → HoldsAt (λ x. ¬ P x) xs k → ¬ AllByRecursion P xs
  not_at [] k within none all = absurd (omega arith)
  not_at (x ∷ xs) zero within none all = none x all.0
  not_at (x ∷ xs) (suc k) within none all = not_at xs k (omega arith) (λ d. none d) all.1

  pub tells_all : (r : Bool) (xs : List X) → MatchBool r (AllWithin P xs 0 (length xs)) ((k : ℕ) × (k < length xs) × HoldsAt (λ x. ¬ P x) xs k)
      → IsTrue r ↔ AllByRecursion P xs
  tells_all true xs told = (λ _. all_from_within xs told, λ _. refl)
  tells_all false xs told = (λ t. absurd (true≢false (sym t)), λ all. absurd (not_at xs told.0 told.1 told.2 all))

-- ---- the chunk and the array

-- what a chunk and a box are along a dimension: where the chunk begins, its edge and the array's size, and the box's range
abbrev pub RangeReaches : ((ℕ × ℕ) × ℕ) × (ℕ × ℕ) → Type 0
RangeReaches p = Reaches p.0.0.0 (min p.0.0.1 (p.0.1 - p.0.0.0)) p.1.0 p.1.1

first_held : (origin edges sizes : List ℕ) → length edges ≡ length origin → length sizes ≡ length origin → HoldSome origin edges sizes
    → AreWithin origin edges origin × AreBelow sizes origin
first_held [] [] [] a b some = (tt, tt)
first_held (o ∷ origin) (e ∷ edges) (n ∷ sizes) a b some =
    let here : 0 < min e (n - o) = some.0 in
    let (within, below) = first_held origin edges sizes (omega arith) (omega arith) some.1 in
    ((omega arith, omega arith, within), (omega arith, below))
first_held _ _ _ a b some = absurd (omega arith)

-- where no index of the chunk is one of the array, none has to be in the box
pub none_held : (origin edges sizes index : List ℕ) → AreWithin origin edges index → AreBelow sizes index → HoldSome origin edges sizes
none_held [] [] sizes index within below = tt
none_held (o ∷ origin) (e ∷ edges) [] index within below = tt
none_held (o ∷ origin) (e ∷ edges) (n ∷ sizes) (i ∷ index) within below =
    let from : o ≤ i = within.0 in
    let end : i < o + e = within.1 in
    let less : i < n = below.0 in
    (omega arith, none_held origin edges sizes index within.2 below.1)
none_held _ _ _ _ within below = absurd within

-- a range that has all indices of the first dimension, and a box that has all of the others
range_holds : (o e n s m : ℕ) (origin edges sizes start shape : List ℕ) → Reaches o (min e (n - o)) s m
    → HoldsRest (record { start = start; shape = shape }) origin edges sizes
    → HoldsRest (record { start = s ∷ start; shape = m ∷ shape }) (o ∷ origin) (e ∷ edges) (n ∷ sizes)
range_holds o e n s m origin edges sizes start shape reaches rest [] in_chunk in_array = absurd in_chunk
range_holds o e n s m origin edges sizes start shape reaches rest (i ∷ index) in_chunk in_array =
    let from : o ≤ i = in_chunk.0 in
    let end : i < o + e = in_chunk.1 in
    let less : i < n = in_array.0 in
    let start_is : s ≤ o = reaches.from in
    let far : min e (n - o) ≤ m - (o - s) = reaches.far in
    (omega arith, omega arith, rest index in_chunk.2 in_array.1)

range_reaches : (o e n s m : ℕ) → 0 < min e (n - o) → ((i : ℕ) → o ≤ i → i < o + e → i < n → (s ≤ i) × (i < s + m))
    → Reaches o (min e (n - o)) s m
range_reaches o e n s m some holds =
    let last = o + (min e (n - o) - 1) in
    let (from, _) = holds o (omega arith) (omega arith) (omega arith) in
    let (_, end) = holds last (omega arith) (omega arith) (omega arith) in
    record { from = from; far = omega arith }

pub rest_held : (origin edges sizes start shape : List ℕ) → length edges ≡ length origin → length sizes ≡ length origin
    → length start ≡ length origin → length shape ≡ length origin → HoldSome origin edges sizes
    → AllByRecursion RangeReaches (zip (zip (zip origin edges) sizes) (zip start shape))
    ↔ HoldsRest (record { start = start; shape = shape }) origin edges sizes
rest_held [] [] [] [] [] a b c d some = (λ _ index in_chunk in_array. in_chunk, λ _. tt)
rest_held (o ∷ origin) (e ∷ edges) (n ∷ sizes) (s ∷ start) (m ∷ shape) a b c d some =
    let here : 0 < min e (n - o) = some.0 in
    let (within, below) = first_held origin edges sizes (omega arith) (omega arith) some.1 in
    let rest = rest_held origin edges sizes start shape (omega arith) (omega arith) (omega arith) (omega arith) some.1 in (
      λ all. range_holds o e n s m origin edges sizes start shape all.0 (rest.0 all.1),
      λ holds. (
        range_reaches o e n s m here (λ i from end less. let both = holds (i ∷ origin) (from, end, within) (less, below) in (both.0, both.1)),
        rest.1 (λ index in_chunk in_array. (holds (o ∷ index) (omega arith, omega arith, in_chunk) (omega arith, in_array)).2),
      ),
    )
rest_held _ _ _ _ _ a b c d some = absurd (omega arith)

-- ---- that there is such a test

-- a test of a thing
abbrev pub Test : Type 0 → Type 0
Test P = (r : Bool) × (IsTrue r ↔ P)

test_both : {P Q : Type 0} → Test P → Test Q → Test (P × Q)
test_both (true, is) (true, also) = (true, (λ _. (is.0 refl, also.0 refl), λ _. refl))
test_both (true, is) (false, also) = (false, (λ t. absurd (true≢false (sym t)), λ both. also.1 both.1))
test_both (false, is) other = (false, (λ t. absurd (true≢false (sym t)), λ both. is.1 both.0))

test_all : {X : Type 0} (P : X → Type 0) → ((x : X) → Test (P x)) → (xs : List X) → Test (AllByRecursion P xs)
test_all P each [] = (true, (λ _. tt, λ _. refl))
test_all P each (x ∷ xs) = test_both (each x) (test_all P each xs)

test_le : (m n : ℕ) → Test (m ≤ n)
test_le m n =
    ⊎_elim (λ (high : n < m). (false, (λ t. absurd (true≢false (sym t)), λ (low : m ≤ n). absurd (omega arith))))
    (λ (low : m ≤ n). (true, (λ _. low, λ _. refl))) (cases_lt n m)

pub test_rest : (b : Box) (origin edges sizes : List ℕ) → length edges ≡ length origin → length sizes ≡ length origin
    → length b.start ≡ length origin → length b.shape ≡ length origin → Test (HoldsRest b origin edges sizes)
test_rest b origin edges sizes c d e f = of (test_all _ (λ p. test_le 1 (min p.0.1 (p.1 - p.0.0))) (zip (zip origin edges) sizes)) where
  of : Test (HoldSome origin edges sizes) → Test (HoldsRest b origin edges sizes)
  of (false, is) =
      (true, (λ _ index in_chunk in_array. absurd (true≢false (sym (is.1 (none_held origin edges sizes index in_chunk in_array)))), λ _. refl))
  of (true, is) =
      let rest = rest_held origin edges sizes b.start b.shape c d e f (is.0 refl) in
      let (r, told) = test_all RangeReaches
      (λ p. let (r, told) = test_both (test_le p.1.0 p.0.0.0) (test_le (min p.0.0.1 (p.0.1 - p.0.0.0)) (p.1.1 - (p.0.0.0 - p.1.0))) in
      (r, (λ t. let both = told.0 t in record { from = both.0; far = both.1 }, λ reaches. told.1 (reaches.from, reaches.far))))
      (zip (zip (zip origin edges) sizes) (zip b.start b.shape))
      in
      (r, (λ t. rest.0 (told.0 t), λ holds. told.1 (rest.1 holds)))
