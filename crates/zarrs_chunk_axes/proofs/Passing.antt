-- What a step through the lists below a shape passes over.
use Rattle.std.proofs.Common.{◌≡◌, ℕ, zero, suc, ◌+◌, ◌-◌, ◌<◌, ◌≤◌, List, [], ◌∷◌, ◌++◌, length, map, get_or, refl, ap, sym, ◌∙◌, append_assoc}
use Rattle.std.proofs.Common.{append-nil, arith}
use Rattle.std.proofs.lemmas.List.{length-map, map-append}
use Rattle.std.specs.List.{AllByRecursion}
use Rattle.zarrs_chunk_axes.specs.InBounds.{AreBelow}
use Rattle.zarrs_chunk_axes.specs.RowMajor.{row_major, rows}
use Rattle.zarrs_chunk_axes.specs.seen.Counting.{AreAtLeast, AreFull, IsPassed, IsRaisable, after, raised}
use Rattle.zarrs_chunk_axes.proofs.RowMajor.{all_after_below, all_below, all_beginning, all_in_rows, all_of_both}

-- 0 at each place is below a shape that has a list below it, and the first of its lists
pub first_is_zeros : (shape numbers : List ℕ) → AreBelow shape numbers
    → row_major shape ≡ map (λ _. 0) numbers ∷ after shape (map (λ _. 0) numbers)
unfolding row_major after
first_is_zeros [] [] below = refl
first_is_zeros (zero ∷ shape) (n ∷ numbers) below = let none : n < zero = below.0 in absurd (omega arith)
first_is_zeros (suc size ∷ shape) (n ∷ numbers) below =
    let zeros : List ℕ = map (λ _. 0) numbers in
    let one_less : size ≡ suc size - 1 = omega arith in
    ap (λ others. map (λ more. 0 ∷ more) others ++ rows 1 size (row_major shape)) (first_is_zeros shape numbers below.1)
    ∙ ap (λ count. (0 ∷ zeros) ∷ (map (λ more. 0 ∷ more) (after shape zeros) ++ rows 1 count (row_major shape))) one_less
first_is_zeros _ _ below = absurd below

pub zeros_below : (shape numbers : List ℕ) → AreBelow shape numbers → AreBelow shape (map (λ _. 0) numbers)
zeros_below [] [] below = tt
zeros_below (size ∷ shape) (n ∷ numbers) below = let here : n < size = below.0 in (omega arith, zeros_below shape numbers below.1)
zeros_below _ _ below = absurd below

-- a raised list is below the shape
pub raised_below : (shape numbers : List ℕ) (k : ℕ) → AreBelow shape numbers → get_or numbers k 0 + 1 < get_or shape k 0
    → AreBelow shape (raised k numbers)
raised_below [] [] k below fits = tt
raised_below (size ∷ shape) (n ∷ numbers) zero below fits = (fits, zeros_below shape numbers below.1)
raised_below (size ∷ shape) (n ∷ numbers) (suc k) below fits = (below.0, raised_below shape numbers k below.1 fits)
raised_below _ _ k below fits = absurd below

-- no number is below itself
at_least_itself : (numbers : List ℕ) → AreAtLeast numbers numbers
at_least_itself [] = tt
at_least_itself (n ∷ numbers) = (omega arith, at_least_itself numbers)

-- nor below 0
at_least_zeros : (shape zeros numbers : List ℕ) → AreBelow shape zeros → ((k : ℕ) → get_or zeros k 0 ≡ 0) → AreBelow shape numbers
    → AreAtLeast zeros numbers
at_least_zeros [] [] [] low are high = tt
at_least_zeros (size ∷ shape) (z ∷ zeros) (n ∷ numbers) low are high =
    let first : z ≡ 0 = are zero in
    (omega arith, at_least_zeros shape zeros numbers low.1 (λ k. are (suc k)) high.1)
at_least_zeros [] [] (_ ∷ _) low are high = absurd high
at_least_zeros (_ ∷ _) (_ ∷ _) [] low are high = absurd high
at_least_zeros _ _ numbers low are high = absurd low

module _ (size n : ℕ) (shape numbers : List ℕ) (left : List (List ℕ)) (passed : List (List ℕ)) (behind : IsPassed shape numbers left passed) where
  -- the lists that begin with the same number, and then those that begin with a later one
  beginning : (n ∷ numbers) ∷ after (size ∷ shape) (n ∷ numbers)
      ≡ map (λ more. n ∷ more) passed ++ (map (λ more. n ∷ more) left ++ rows (n + 1) (size - (n + 1)) (row_major shape))
  unfolding after
  beginning =
      ap (λ lists. map (λ more. n ∷ more) lists ++ rows (n + 1) (size - (n + 1)) (row_major shape)) behind.all
      ∙ ap (λ lists. lists ++ rows (n + 1) (size - (n + 1)) (row_major shape)) (map-append (λ more. n ∷ more) passed left)
      ∙ append_assoc (map (λ more. n ∷ more) passed) (map (λ more. n ∷ more) left) (rows (n + 1) (size - (n + 1)) (row_major shape))

  some : 0 < length (map (λ more. n ∷ more) passed)
  some = omega (arith, behind.some, length-map passed (λ more. n ∷ more))

  at_least : AllByRecursion (AreAtLeast (n ∷ numbers)) (map (λ more. n ∷ more) passed)
  at_least = all_beginning (AreAtLeast numbers) (AreAtLeast (n ∷ numbers)) n (λ more h. (omega arith, h)) passed behind.at_least

-- a list that is full up to an end, and has only 0 behind the place there, passes over all that follow
pub all_passed : (shape numbers : List ℕ) (end : ℕ) → AreBelow shape numbers → AreFull shape numbers 0 end
    → ((k : ℕ) → end < k → get_or numbers k 0 ≡ 0) → (passed : List (List ℕ)) × IsPassed shape numbers [] passed
unfolding after
all_passed [] [] end below full zeros = ([] ∷ [], record { all = refl; at_least = (tt, tt); some = omega arith })
all_passed (size ∷ shape) (n ∷ numbers) zero below full zeros =
    let later = rows (n + 1) (size - (n + 1)) (row_major shape) in
    let low = λ (others : List ℕ) (h : AreBelow shape others).
    at_least_zeros shape numbers others below.1 (λ k. zeros (suc k) (omega arith)) h in (
      (n ∷ numbers) ∷ (map (λ more. n ∷ more) (after shape numbers) ++ later),
      record {
        all = sym (append-nil ((n ∷ numbers) ∷ (map (λ more. n ∷ more) (after shape numbers) ++ later)));
        at_least = (
          at_least_itself (n ∷ numbers),
          all_of_both (AreAtLeast (n ∷ numbers)) (map (λ more. n ∷ more) (after shape numbers)) later
              (all_beginning (AreBelow shape) (AreAtLeast (n ∷ numbers)) n (λ others h. (omega arith, low others h)) (after shape numbers)
              (all_after_below shape numbers below.1))
              (all_in_rows (AreBelow shape) (AreAtLeast (n ∷ numbers)) (n + 1) (size - (n + 1)) (λ m others first last h. (omega arith, low others h))
              (row_major shape) (all_below shape)),
        );
        some = omega arith;
      },
    )
all_passed (size ∷ shape) (n ∷ numbers) (suc end) below full zeros =
    let (passed, behind) = all_passed shape numbers end below.1 (λ k first last. full (suc k) (omega arith) (omega arith))
    (λ k later. zeros (suc k) (omega arith)) in
    let here : size ≤ n + 1 = full zero (omega arith) (omega arith) in
    let none : size - (n + 1) ≡ 0 = omega arith in (
      map (λ more. n ∷ more) passed,
      record {
        all = beginning size n shape numbers [] passed behind
            ∙ ap (λ count. map (λ more. n ∷ more) passed ++ rows (n + 1) count (row_major shape)) none;
        at_least = at_least size n shape numbers [] passed behind;
        some = some size n shape numbers [] passed behind;
      },
    )
all_passed _ _ end below full zeros = absurd below

-- a raised list passes over those before it
pub raised_passed : (shape numbers : List ℕ) (end k : ℕ) → AreBelow shape numbers → IsRaisable shape numbers end k
    → ((k : ℕ) → end < k → get_or numbers k 0 ≡ 0)
    → (passed : List (List ℕ)) × IsPassed shape numbers (raised k numbers ∷ after shape (raised k numbers)) passed
unfolding after
raised_passed [] [] end k below is zeros = absurd (omega (arith, is.below))
raised_passed (size ∷ shape) (n ∷ numbers) zero k below is zeros = absurd (omega (arith, is.before))
raised_passed (size ∷ shape) (n ∷ numbers) (suc end) zero below is zeros =
    let (passed, behind) = all_passed shape numbers end below.1 (λ k first last. is.last (suc k) (omega arith) (omega arith))
    (λ k later. zeros (suc k) (omega arith)) in
    let fits : n + 1 < size = is.below in
    let count_is : size - (n + 1) ≡ suc (size - (n + 1 + 1)) = omega arith in (
      map (λ more. n ∷ more) passed,
      record {
        all = beginning size n shape numbers [] passed behind
            ∙ ap (λ count. map (λ more. n ∷ more) passed ++ rows (n + 1) count (row_major shape)) count_is
            ∙ ap (λ others. map (λ more. n ∷ more) passed
            ++ (map (λ more. (n + 1) ∷ more) others ++ rows (n + 1 + 1) (size - (n + 1 + 1)) (row_major shape)))
            (first_is_zeros shape numbers below.1);
        at_least = at_least size n shape numbers [] passed behind;
        some = some size n shape numbers [] passed behind;
      },
    )
raised_passed (size ∷ shape) (n ∷ numbers) (suc end) (suc k) below is zeros =
    let left = raised k numbers ∷ after shape (raised k numbers) in
    let (passed, behind) = raised_passed shape numbers end k below.1 (record {
      before = omega (arith, is.before);
      below = is.below;
      last = λ j first last. is.last (suc j) (omega arith) (omega arith);
    }) (λ k later. zeros (suc k) (omega arith)) in (
      map (λ more. n ∷ more) passed,
      record {
        all = beginning size n shape numbers left passed behind;
        at_least = at_least size n shape numbers left passed behind;
        some = some size n shape numbers left passed behind;
      },
    )
raised_passed _ _ end k below is zeros = absurd below

-- nothing comes after a list that is full
pub none_after : (shape numbers : List ℕ) → AreBelow shape numbers → AreFull shape numbers 0 (length shape) → after shape numbers ≡ []
unfolding after
none_after [] [] below full = refl
none_after (size ∷ shape) (n ∷ numbers) below full =
    let here : size ≤ n + 1 = full zero (omega arith) (omega arith) in
    let none : size - (n + 1) ≡ 0 = omega arith in
    ap (λ lists. map (λ more. n ∷ more) lists ++ rows (n + 1) (size - (n + 1)) (row_major shape))
    (none_after shape numbers below.1 (λ k first last. full (suc k) (omega arith) (omega arith)))
    ∙ ap (λ count. rows (n + 1) count (row_major shape)) none
none_after _ _ below full = absurd below

-- a list that is raised at the last place where it can be comes next
pub one_passed : (shape numbers : List ℕ) (k : ℕ) → AreBelow shape numbers → IsRaisable shape numbers (length shape) k
    → after shape numbers ≡ raised k numbers ∷ after shape (raised k numbers)
unfolding after
one_passed [] [] k below is = absurd (omega (arith, is.before))
one_passed (size ∷ shape) (n ∷ numbers) zero below is =
    let fits : n + 1 < size = is.below in
    let some : size - (n + 1) ≡ suc (size - (n + 1 + 1)) = omega arith in
    let none = none_after shape numbers below.1 (λ k first last. is.last (suc k) (omega arith) (omega arith)) in
    ap (λ lists. map (λ more. n ∷ more) lists ++ rows (n + 1) (size - (n + 1)) (row_major shape)) none
    ∙ ap (λ count. rows (n + 1) count (row_major shape)) some
    ∙ ap (λ others. map (λ more. (n + 1) ∷ more) others ++ rows (n + 1 + 1) (size - (n + 1 + 1)) (row_major shape))
    (first_is_zeros shape numbers below.1)
one_passed (size ∷ shape) (n ∷ numbers) (suc k) below is =
    ap (λ lists. map (λ more. n ∷ more) lists ++ rows (n + 1) (size - (n + 1)) (row_major shape)) (one_passed shape numbers k below.1 (record {
      before = omega (arith, is.before);
      below = is.below;
      last = λ j first last. is.last (suc j) (omega arith) (omega arith);
    }))
one_passed _ _ k below is = absurd below
