-- The place of a list below a shape among all of them, and the list at a part of the way.
use Rattle.zarrs_chunk_plan.proofs.Common.{◌≡◌, ◌∙◌, ℕ, zero, suc, ◌+◌, ◌-◌, ◌*◌, ◌<◌, ◌≤◌, ◌/◌, ◌%◌, List, [], ◌∷◌, ◌++◌, Contains, drop, length}
use Rattle.zarrs_chunk_plan.proofs.Common.{map, refl, ap, sym, arith, div-add-mod, div-eq_of_lt, mod-lt, mul_assoc, mul_comm, row_fits}
use Rattle.zarrs_chunk_plan.proofs.Common.{drop-map, length-drop, length-map, AreBelow, row_major, rows, head_some, tail_some, rank}
use Rattle.std.proofs.Math.Nat.{add-mul, div-lt_iff_lt-mul, mul-add-div}
use Rattle.std.proofs.lemmas.List.{drop-append-le}
use Rattle.std.proofs.Math.Seq.{drop-append-add}
use Rattle.zarrs_chunk_axes.specs.seen.Counting.{after}
use Rattle.zarrs_chunk_plan.specs.seen.Between.{digits}
use Rattle.zarrs_chunk_plan.proofs.ByNumber.{length-shape}

-- ---- the place of a list

drop_rows : (first count n k : ℕ) (others : List (List ℕ)) → n < count → k ≤ length others
    → drop (n * length others + k) (rows first count others)
    ≡ map (λ numbers. (first + n) ∷ numbers) (drop k others) ++ rows (first + n + 1) (count - (n + 1)) others
drop_rows first zero n k others less within = absurd (omega arith)
drop_rows first (suc count) zero k others less within =
    let same : 0 * length others + k ≡ k = omega arith in
    let here : first + 0 ≡ first = omega arith in
    let many = length-map others (λ (numbers : List ℕ). first ∷ numbers) in
    let left : suc count - (0 + 1) ≡ count = omega arith in
    rw (same, here, left)
    (drop-append-le k (map (λ numbers. first ∷ numbers) others) (rows (first + 1) count others) (omega arith)
    ∙ ap (λ xs. xs ++ rows (first + 1) count others) (drop-map (λ (numbers : List ℕ). first ∷ numbers) k others))
drop_rows first (suc count) (suc n) k others less within =
    let many = length-map others (λ (numbers : List ℕ). first ∷ numbers) in
    let split : suc n * length others + k ≡ length (map (λ numbers. first ∷ numbers) others) + (n * length others + k) = omega arith in
    let here : first + suc n ≡ first + 1 + n = omega arith in
    let left : suc count - (suc n + 1) ≡ count - (n + 1) = omega arith in
    rw (split, here, left)
    (drop-append-add (map (λ numbers. first ∷ numbers) others) (rows (first + 1) count others) (n * length others + k)
    ∙ drop_rows (first + 1) count n k others (omega arith) within)

pub rank_within : (shape numbers : List ℕ) → AreBelow shape numbers → rank shape numbers < length (row_major shape)
unfolding row_major
rank_within [] [] below = omega arith
rank_within (size ∷ shape) (n ∷ numbers) below =
    let rest = rank_within shape numbers below.1 in
    let row = row_fits n (length (row_major shape)) size (length (row_major shape)) below.0 (omega arith) in
    rw (length-shape size shape) (omega arith)
rank_within _ _ below = absurd below

-- from its place on come the list and those after it
pub drop_rank : (shape numbers : List ℕ) → AreBelow shape numbers → drop (rank shape numbers) (row_major shape) ≡ numbers ∷ after shape numbers
unfolding row_major after
drop_rank [] [] below = refl
drop_rank (size ∷ shape) (n ∷ numbers) below =
    let within = rank_within shape numbers below.1 in
    let same : 0 + n ≡ n = omega arith in
    drop_rows 0 size n (rank shape numbers) (row_major shape) below.0 (omega arith)
    ∙ rw (same, drop_rank shape numbers below.1) refl
drop_rank _ _ below = absurd below

module _ (shape : List ℕ) where
  lists_after : (numbers : List ℕ) → AreBelow shape numbers → length (after shape numbers) + rank shape numbers + 1 ≡ length (row_major shape)
  lists_after numbers below =
      let many = length-drop (rank shape numbers) (row_major shape) in
      let same = ap length (drop_rank shape numbers below) in
      omega arith

  pub rank_next : (numbers next : List ℕ) → AreBelow shape numbers → AreBelow shape next → after shape numbers ≡ next ∷ after shape next
      → rank shape next ≡ rank shape numbers + 1
  rank_next numbers next below also is =
      let one = lists_after numbers below in
      let other = lists_after next also in
      let longer = ap length is in
      omega arith

  pub rank_same : (numbers others : List ℕ) → AreBelow shape numbers → AreBelow shape others → rank shape numbers ≡ rank shape others
      → numbers ≡ others
  rank_same numbers others below also same =
      let one = drop_rank shape numbers below in
      let other = drop_rank shape others also in
      cc

-- ---- the list at a part of the way

part_below : (part of size : ℕ) → part < of → 0 < size → part * size / of < size
part_below part of size less some =
    let positive : 0 < of = omega arith in
    (div-lt_iff_lt-mul positive).1 (omega (arith, row_fits part size of size less (omega arith), mul_comm of size))

part_split : (part of size lists : ℕ) → 0 < of → part * (size * lists) / of ≡ part * size / of * lists + part * size % of * lists / of
part_split part of size lists some =
    let quotient = part * size / of in
    let rest = part * size % of in
    let whole : of * quotient + rest ≡ part * size = div-add-mod (part * size) of in
    let same : part * (size * lists) ≡ of * (quotient * lists) + rest * lists =
    sym (mul_assoc part size lists) ∙ ap (λ n. n * lists) (sym whole) ∙ add-mul (of * quotient) rest lists
    ∙ ap (λ n. n + rest * lists) (mul_assoc of quotient lists)
    in
    rw same (mul-add-div some (quotient * lists) (rest * lists))

-- where no size is 0, the list that is found is below the shape, and so many come before it
pub digits_are : (shape : List ℕ) (part of : ℕ) → part < of → (¬ Contains shape 0)
    → AreBelow shape (digits shape part of) × (rank shape (digits shape part of) ≡ part * length (row_major shape) / of)
unfolding row_major
digits_are [] part of less some =
    let one : part * 1 ≡ part = omega arith in
    (tt, sym (rw one (div-eq_of_lt less)))
digits_are (size ∷ shape) part of less some =
    let here : 0 < size = head_some size shape some in
    let (below, is) = digits_are shape (part * size % of) of (mod-lt (part * size) (omega arith)) (tail_some size shape some) in (
      (part_below part of size less here, below),
      rw (length-shape size shape, is) (sym (part_split part of size (length (row_major shape)) (omega arith))),
    )
