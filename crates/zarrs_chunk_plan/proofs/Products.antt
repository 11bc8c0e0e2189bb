-- Products of one number from each of some lists: their sum, and the greatest of them.
use Rattle.zarrs_chunk_plan.proofs.Common.{◌≡◌, ◌∙◌, ℕ, zero, suc, ◌+◌, ◌*◌, ◌<◌, ◌≤◌, List, [], ◌∷◌, ◌++◌, fold, length, map, max, refl, ap, ap₂}
use Rattle.zarrs_chunk_plan.proofs.Common.{sym, ⊎_elim, arith, mul_comm, cases_lt, sum_by-cons, flat_map, range_with_len, sum}
use Rattle.zarrs_chunk_plan.proofs.Common.{row_major, rows, chunks_in, counted_from, product, met_by, met_in}

abbrev pub times_each : ℕ → List ℕ → List ℕ
times_each x = map (λ p. x * p)

abbrev pub products : List (List ℕ) → List ℕ
products [] = 1 ∷ []
products (xs ∷ lists) = flat_map (λ x. times_each x (products lists)) xs

-- ---- what is made of all of a list by an operation over which products distribute

module _ (r : List ℕ → ℕ) (op : ℕ → ℕ → ℕ) (none : r [] ≡ 0) (one : (x : ℕ) (xs : List ℕ) → r (x ∷ xs) ≡ op x (r xs))
    (zero_first : (x : ℕ) → op 0 x ≡ x)
    (zero_last : (x : ℕ) → op x 0 ≡ x)
    (again : (x y z : ℕ) → op (op x y) z ≡ op x (op y z)) (times : (x y z : ℕ) → op x y * z ≡ op (x * z) (y * z)) where
  of_both : (xs ys : List ℕ) → r (xs ++ ys) ≡ op (r xs) (r ys)
  of_both [] ys = rw none (sym (zero_first (r ys)))
  of_both (x ∷ xs) ys = one x (xs ++ ys) ∙ ap (op x) (of_both xs ys) ∙ sym (again x (r xs) (r ys)) ∙ ap (λ n. op n (r ys)) (sym (one x xs))

  of_times : (x : ℕ) (ps : List ℕ) → r (times_each x ps) ≡ x * r ps
  of_times x [] = rw none (omega arith)
  of_times x (p ∷ ps) =
      one (x * p) (times_each x ps) ∙ ap (op (x * p)) (of_times x ps) ∙ ap₂ op (mul_comm x p) (mul_comm x (r ps)) ∙ sym (times p (r ps) x)
      ∙ mul_comm (op p (r ps)) x ∙ ap (λ n. x * n) (sym (one p ps))

  of_rows : (xs ps : List ℕ) → r (flat_map (λ x. times_each x ps) xs) ≡ r xs * r ps
  of_rows [] ps = rw none (omega arith)
  of_rows (x ∷ xs) ps =
      of_both (times_each x ps) (flat_map (λ y. times_each y ps) xs) ∙ ap₂ op (of_times x ps) (of_rows xs ps) ∙ sym (times x (r xs) (r ps))
      ∙ ap (λ n. n * r ps) (sym (one x xs))

  of_products : (lists : List (List ℕ)) → r (products lists) ≡ product (map r lists)
  of_products [] = one 1 [] ∙ ap (op 1) none ∙ zero_last 1
  of_products (xs ∷ lists) = of_rows xs (products lists) ∙ ap (λ n. r xs * n) (of_products lists)

pub sum_of_products : (lists : List (List ℕ)) → sum (products lists) ≡ product (map sum lists)
sum_of_products =
    of_products sum ◌+◌ refl (λ x xs. sum_by-cons (λ y. y) x xs) (λ x. omega arith) (λ x. omega arith) (λ x y z. omega arith) distributes where
      distributes : (x y z : ℕ) → (x + y) * z ≡ x * z + y * z
      distributes x y zero = omega arith
      distributes x y (suc z) = let rest = distributes x y z in omega arith

abbrev pub greatest_of : List ℕ → ℕ
greatest_of = fold max 0

pub greatest_from : (a : ℕ) (xs : List ℕ) → fold max a xs ≡ max a (greatest_of xs)
greatest_from a [] = omega arith
greatest_from a (x ∷ xs) =
    let here = greatest_from (max a x) xs in
    let there = greatest_from (max 0 x) xs in
    here ∙ omega arith

pub greatest_of_products : (lists : List (List ℕ)) → greatest_of (products lists) ≡ product (map greatest_of lists)
greatest_of_products =
    of_products greatest_of max refl (λ x xs. greatest_from (max 0 x) xs ∙ omega arith) (λ x. omega arith) (λ x. omega arith) (λ x y z. omega arith)
    distributes where
      as_large : (x y z : ℕ) → x ≤ y → x * z ≤ y * z
      as_large x y zero le = omega arith
      as_large x y (suc z) le = let rest = as_large x y z le in omega arith

      distributes : (x y z : ℕ) → max x y * z ≡ max (x * z) (y * z)
      distributes x y z =
          ⊎_elim
          (λ (less : x < y).
          let there = as_large x y z (omega arith) in
          let same : max x y ≡ y = omega arith in
          rw same (omega arith))
          (λ (le : y ≤ x).
          let there = as_large y x z le in
          let same : max x y ≡ x = omega arith in
          rw same (omega arith))
          (cases_lt x y)

-- ---- the chunks in a box

abbrev pub met_of : List (ℕ → ℕ) → List ℕ → ℕ
met_of counters chunk = product (met_by counters chunk)

met_in_rows : (f : ℕ → ℕ) (counters : List (ℕ → ℕ)) (a b n : ℕ) (first : List ℕ) (others : List (List ℕ))
    → map (met_of (f ∷ counters)) (map (counted_from (a ∷ first)) (rows b n others))
    ≡ flat_map (λ x. times_each x (map (met_of counters) (map (counted_from first) others))) (map f (range_with_len (a + b) n))
met_in_rows f counters a b zero first others = refl
met_in_rows f counters a b (suc n) first others =
    let next : a + (b + 1) ≡ a + b + 1 = omega arith in
    let rest = met_in_rows f counters a (b + 1) n first others in
    map_both (λ numbers. b ∷ numbers) others (rows (b + 1) n others) ∙ ap₂ ◌++◌ (one_row others) (rest ∙ rw next refl) where
      map_both : (g : List ℕ → List ℕ) (xs ys : List (List ℕ))
          → map (met_of (f ∷ counters)) (map (counted_from (a ∷ first)) (map g xs ++ ys))
          ≡ map (λ x. met_of (f ∷ counters) (counted_from (a ∷ first) (g x))) xs ++ map (met_of (f ∷ counters)) (map (counted_from (a ∷ first)) ys)
      map_both g [] ys = refl
      map_both g (x ∷ xs) ys = ap (λ zs. met_of (f ∷ counters) (counted_from (a ∷ first) (g x)) ∷ zs) (map_both g xs ys)

      one_row : (xs : List (List ℕ))
          → map (λ x. met_of (f ∷ counters) (counted_from (a ∷ first) (b ∷ x))) xs
          ≡ times_each (f (a + b)) (map (met_of counters) (map (counted_from first) xs))
      one_row [] = refl
      one_row (x ∷ xs) = ap (λ zs. f (a + b) * met_of counters (counted_from first x) ∷ zs) (one_row xs)

-- how many chunks of the source each of the chunks in a box meets: the products of what each meets along each dimension
pub met_by_all : (counters : List (ℕ → ℕ)) (first sizes : List ℕ) → length first ≡ length counters → length sizes ≡ length counters
    → map (met_of counters) (chunks_in (record { start = first; shape = sizes })) ≡ products (met_in counters first sizes)
unfolding row_major
met_by_all [] [] [] f g = refl
met_by_all (h ∷ counters) (a ∷ first) (n ∷ sizes) f g =
    let rest = met_by_all counters first sizes (omega arith) (omega arith) in
    let begin : a + 0 ≡ a = omega arith in
    met_in_rows h counters a 0 n first (row_major sizes) ∙ rw (begin, rest) refl
met_by_all _ _ _ f g = absurd (omega arith)
