-- The lists of numbers below a shape: which they are, and their order.
use Rattle.std.proofs.Common.{ℕ, zero, suc, ◌+◌, ◌-◌, ◌<◌, ◌≤◌, List, [], ◌∷◌, ◌++◌, map, arith}
use Rattle.std.specs.List.{AllByRecursion}
use Rattle.zarrs_chunk_axes.specs.InBounds.{AreBelow}
use Rattle.zarrs_chunk_axes.specs.RowMajor.{row_major, rows}
use Rattle.zarrs_chunk_axes.specs.seen.Counting.{after}

-- what holds of both parts holds of all
pub all_of_both : {X : Type 0} (P : X → Type 0) (xs ys : List X) → AllByRecursion P xs → AllByRecursion P ys → AllByRecursion P (xs ++ ys)
all_of_both P [] ys first second = second
all_of_both P (x ∷ xs) ys first second = (first.0, all_of_both P xs ys first.1 second)

-- what follows for each follows for all
pub all_follow : {X : Type 0} (P Q : X → Type 0) → ((x : X) → P x → Q x) → (xs : List X) → AllByRecursion P xs → AllByRecursion Q xs
all_follow P Q follows [] h = tt
all_follow P Q follows (x ∷ xs) h = (follows x h.0, all_follow P Q follows xs h.1)

-- what holds of a number and a list holds of the lists that begin with such numbers
module _ (P : List ℕ → Type 0) (Q : List ℕ → Type 0) where
  pub all_beginning : (n : ℕ) → ((numbers : List ℕ) → P numbers → Q (n ∷ numbers)) → (others : List (List ℕ)) → AllByRecursion P others
      → AllByRecursion Q (map (λ numbers. n ∷ numbers) others)
  all_beginning n follows [] h = tt
  all_beginning n follows (x ∷ others) h = (follows x h.0, all_beginning n follows others h.1)

  pub all_in_rows : (first count : ℕ) → ((n : ℕ) (numbers : List ℕ) → first ≤ n → n < first + count → P numbers → Q (n ∷ numbers))
      → (others : List (List ℕ)) → AllByRecursion P others → AllByRecursion Q (rows first count others)
  all_in_rows first zero follows others h = tt
  all_in_rows first (suc count) follows others h =
      all_of_both Q (map (λ numbers. first ∷ numbers) others) (rows (first + 1) count others)
      (all_beginning first (λ numbers. follows first numbers (omega arith) (omega arith)) others h)
      (all_in_rows (first + 1) count (λ n numbers low high. follows n numbers (omega arith) (omega arith)) others h)

-- each of the lists is below the shape
pub all_below : (shape : List ℕ) → AllByRecursion (AreBelow shape) (row_major shape)
unfolding row_major
all_below [] = (tt, tt)
all_below (size ∷ shape) =
    all_in_rows (AreBelow shape) (AreBelow (size ∷ shape)) 0 size (λ n numbers low high below. (omega arith, below))
    (row_major shape) (all_below shape)

-- and so are those that come after one
pub all_after_below : (shape numbers : List ℕ) → AreBelow shape numbers → AllByRecursion (AreBelow shape) (after shape numbers)
unfolding after
all_after_below [] [] below = tt
all_after_below (size ∷ shape) (n ∷ numbers) below =
    let here : n < size = below.0 in
    all_of_both (AreBelow (size ∷ shape)) (map (λ others. n ∷ others) (after shape numbers)) (rows (n + 1) (size - (n + 1)) (row_major shape))
    (all_beginning (AreBelow shape) (AreBelow (size ∷ shape)) n (λ others h. (here, h)) (after shape numbers) (all_after_below shape numbers below.1))
    (all_in_rows (AreBelow shape) (AreBelow (size ∷ shape)) (n + 1) (size - (n + 1)) (λ m others low high h. (omega arith, h))
    (row_major shape) (all_below shape))
all_after_below _ _ below = absurd below
