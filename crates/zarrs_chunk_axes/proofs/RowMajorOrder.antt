-- The lists of numbers below a shape are all that are below it, each once and each after the one before.
use Rattle.std.proofs.Common.{◌≡◌, ◌≢◌, ◌↔◌, ℕ, zero, suc, ◌+◌, ◌<◌, ◌≤◌, List, [], ◌∷◌, ◌++◌, Contains, get_or, length, map, refl, ap, subst, sym}
use Rattle.std.proofs.Common.{inl, inr, ⊎_elim, arith}
use Rattle.std.proofs.lemmas.Bool.{cases_lt}
use Rattle.std.specs.List.{AllByRecursion, AllPairs}
use Rattle.zarrs_chunk_axes.specs.InBounds.{AreBelow}
use Rattle.zarrs_chunk_axes.specs.RowMajor.{IsBefore, row_major, rows}
use Rattle.zarrs_chunk_axes.proofs.RowMajor.{all_below, all_beginning, all_in_rows, all_of_both}

module _ {X : Type 0} where
  there : (y : X) (xs : List X) (x : X) → Contains xs x → Contains (y ∷ xs) x
  there y xs x (k, within, is) = (suc k, omega arith, is)

  in_front : (xs ys : List X) (x : X) → Contains xs x → Contains (xs ++ ys) x
  in_front [] ys x (k, within, is) = absurd (omega arith)
  in_front (y ∷ xs) ys x (zero, within, is) = (zero, omega arith, is)
  in_front (y ∷ xs) ys x (suc k, within, is) = there y (xs ++ ys) x (in_front xs ys x (k, omega arith, is))

  behind : (xs ys : List X) (x : X) → Contains ys x → Contains (xs ++ ys) x
  behind [] ys x has = has
  behind (y ∷ xs) ys x has = there y (xs ++ ys) x (behind xs ys x has)

  -- what holds of each holds of one
  pub of_one : (P : X → Type 0) (xs : List X) (x : X) → AllByRecursion P xs → Contains xs x → P x
  of_one P [] x all (k, within, is) = absurd (omega arith)
  of_one P (y ∷ xs) x all (zero, within, is) = subst P is all.0
  of_one P (y ∷ xs) x all (suc k, within, is) = of_one P xs x all.1 (k, omega arith, is)

beginning : (n : ℕ) (others : List (List ℕ)) (numbers : List ℕ) → Contains others numbers → Contains (map (λ more. n ∷ more) others) (n ∷ numbers)
beginning n [] numbers (k, within, is) = absurd (omega arith)
beginning n (y ∷ others) numbers (zero, within, is) = (zero, omega arith, ap (λ more. n ∷ more) is)
beginning n (y ∷ others) numbers (suc k, within, is) =
    there (n ∷ y) (map (λ more. n ∷ more) others) (n ∷ numbers) (beginning n others numbers (k, omega arith, is))

in_rows : (first count n : ℕ) (others : List (List ℕ)) (numbers : List ℕ) → first ≤ n → n < first + count → Contains others numbers
    → Contains (rows first count others) (n ∷ numbers)
in_rows first zero n others numbers low high has = absurd (omega arith)
in_rows first (suc count) n others numbers low high has =
    ⊎_elim
    (λ (later : first < n). behind (map (λ more. first ∷ more) others) (rows (first + 1) count others) (n ∷ numbers)
    (in_rows (first + 1) count n others numbers (omega arith) (omega arith) has))
    (λ (not_later : n ≤ first).
    let same : first ≡ n = omega arith in
    in_front (map (λ more. first ∷ more) others) (rows (first + 1) count others) (n ∷ numbers)
    (subst (λ m. Contains (map (λ more. first ∷ more) others) (m ∷ numbers)) same (beginning first others numbers has)))
    (cases_lt first n)

has_all : (shape numbers : List ℕ) → AreBelow shape numbers → Contains (row_major shape) numbers
unfolding row_major
has_all [] [] below = (zero, omega arith, refl)
has_all (size ∷ shape) (n ∷ numbers) below =
    in_rows 0 size n (row_major shape) numbers (omega arith) (omega (arith, below.0)) (has_all shape numbers below.1)
has_all _ _ below = absurd below

-- they are the lists below the shape
pub are_those_below : (shape numbers : List ℕ) → Contains (row_major shape) numbers ↔ AreBelow shape numbers
are_those_below shape numbers = (of_one (AreBelow shape) (row_major shape) numbers (all_below shape), has_all shape numbers)

-- ---- their order

module _ {X : Type 0} (R : X → X → Type 0) where
  -- R holds of each and each later one
  IsOrdered : List X → Type 0
  IsOrdered [] = Unit {0}
  IsOrdered (x ∷ xs) = AllByRecursion (R x) xs × IsOrdered xs

  both_ordered : (xs ys : List X) → IsOrdered xs → IsOrdered ys → AllByRecursion (λ x. AllByRecursion (R x) ys) xs → IsOrdered (xs ++ ys)
  unfolding IsOrdered
  both_ordered [] ys first second between = second
  both_ordered (x ∷ xs) ys first second between =
      (all_of_both (R x) xs ys first.0 between.0, both_ordered xs ys first.1 second between.1)

  at_place : (P : X → Type 0) (xs : List X) (k : ℕ) (d : X) → AllByRecursion P xs → k < length xs → P (get_or xs k d)
  at_place P [] k d all within = absurd (omega arith)
  at_place P (x ∷ xs) zero d all within = all.0
  at_place P (x ∷ xs) (suc k) d all within = at_place P xs k d all.1 (omega arith)

  all_pairs : (xs : List X) → IsOrdered xs → AllPairs R xs
  unfolding IsOrdered
  all_pairs (x ∷ xs) ordered zero (suc j) d before within = at_place (R x) xs j d ordered.0 (omega arith)
  all_pairs (x ∷ xs) ordered (suc i) (suc j) d before within = all_pairs xs ordered.1 i j d (omega arith) (omega arith)
  all_pairs _ ordered _ _ d before within = absurd (omega arith)

anything : (others : List (List ℕ)) → AllByRecursion (λ _. Unit {0}) others
anything [] = tt
anything (x ∷ others) = (tt, anything others)

beginning_ordered : (n : ℕ) (others : List (List ℕ)) → IsOrdered IsBefore others → IsOrdered IsBefore (map (λ more. n ∷ more) others)
unfolding IsOrdered
beginning_ordered n [] ordered = tt
beginning_ordered n (x ∷ others) ordered =
    (all_beginning (IsBefore x) (IsBefore (n ∷ x)) n (λ numbers h. inr (refl, h)) others ordered.0, beginning_ordered n others ordered.1)

rows_ordered : (first count : ℕ) (others : List (List ℕ)) → IsOrdered IsBefore others → IsOrdered IsBefore (rows first count others)
unfolding IsOrdered
rows_ordered first zero others ordered = tt
rows_ordered first (suc count) others ordered =
    both_ordered IsBefore (map (λ more. first ∷ more) others) (rows (first + 1) count others) (beginning_ordered first others ordered)
    (rows_ordered (first + 1) count others ordered)
    (all_beginning (λ _. Unit {0}) (λ one. AllByRecursion (IsBefore one) (rows (first + 1) count others)) first
    (λ numbers _. all_in_rows (λ _. Unit {0}) (IsBefore (first ∷ numbers)) (first + 1) count
    (λ n more low high _. inl (omega arith)) others (anything others))
    others (anything others))

all_ordered : (shape : List ℕ) → IsOrdered IsBefore (row_major shape)
unfolding row_major IsOrdered
all_ordered [] = (tt, tt)
all_ordered (size ∷ shape) = rows_ordered 0 size (row_major shape) (all_ordered shape)

-- each comes before those that follow it
pub in_order : (shape : List ℕ) → AllPairs IsBefore (row_major shape)
in_order shape = all_pairs IsBefore (row_major shape) (all_ordered shape)

-- a list doesn't come before itself
pub not_before_itself : (numbers : List ℕ) → ¬ IsBefore numbers numbers
not_before_itself [] before = before
not_before_itself (n ∷ numbers) before = ⊎_elim (λ (less : n < n). absurd (omega arith)) (λ rest. not_before_itself numbers rest.1) before

-- so none comes twice
pub each_once : (shape : List ℕ) → AllPairs (λ one other. one ≢ other) (row_major shape)
each_once shape i j d before within same =
    not_before_itself (get_or (row_major shape) i d)
    (subst (λ other. IsBefore (get_or (row_major shape) i d) other) (sym same) (in_order shape i j d before within))
