-- Lists that are read backwards: the dimensions of a chunk that is stored in column-major order.
use Rattle.zarrs_chunk_plan.proofs.Common.{◌≡◌, ◌∙◌, ℕ, ◌*◌, ◌-◌, List, [], ◌∷◌, ◌++◌, Contains, length, ap, refl, subst, sym, arith, mul_assoc}
use Rattle.zarrs_chunk_plan.proofs.Common.{mul_comm, reverse-append, Contains-get_or, AreWithin, in_order, product, EndWithin}
use Rattle.std.proofs.Common.{reverse}
use mathlib.Core.List.{reverse_aux}
use Rattle.std.proofs.lemmas.List.{get_or-reverse, length-reverse, reverse-reverse}
use Rattle.zarrs_chunk_plan.specs.Bytes.{AreRanges}
use Rattle.zarrs_chunk_plan.specs.declared.bytes.ranges.MemoryOrder.{MemoryOrder}
use Rattle.zarrs_chunk_plan.specs.declared.bytes.ranges.MemoryOrder.TheVariants.{C, F}

-- ---- a box, reversed onto another one

ends_onto : (start shape edges a b c : List ℕ) → EndWithin start shape edges → EndWithin a b c
    → EndWithin (reverse_aux start a) (reverse_aux shape b) (reverse_aux edges c)
ends_onto [] [] [] a b c _ within = within
ends_onto (s ∷ start) (n ∷ shape) (e ∷ edges) a b c (last, rest) within =
    ends_onto start shape edges (s ∷ a) (n ∷ b) (e ∷ c) rest (last, within)
ends_onto _ _ _ a b c out _ = absurd out

inside_onto : (start shape index a b c : List ℕ) → AreWithin start shape index → AreWithin a b c
    → AreWithin (reverse_aux start a) (reverse_aux shape b) (reverse_aux index c)
inside_onto [] [] [] a b c _ within = within
inside_onto (s ∷ start) (n ∷ shape) (i ∷ index) a b c (from, below, rest) within =
    inside_onto start shape index (s ∷ a) (n ∷ b) (i ∷ c) rest (from, below, within)
inside_onto _ _ _ a b c out _ = absurd out

zero_reversed : (numbers : List ℕ) → Contains (reverse numbers) 0 → Contains numbers 0
zero_reversed numbers (k, small, is) =
    let long = length-reverse numbers in
    subst (Contains numbers) (sym (get_or-reverse numbers k 0 (omega arith)) ∙ is)
    (Contains-get_or numbers (length numbers - 1 - k) 0 (omega arith))

pub product_last : (numbers : List ℕ) (n : ℕ) → product (numbers ++ n ∷ []) ≡ n * product numbers
product_last [] n = refl
product_last (m ∷ numbers) n =
    ap (λ p. m * p) (product_last numbers n) ∙ sym (mul_assoc m n (product numbers)) ∙ ap (λ p. p * product numbers) (mul_comm m n)
    ∙ mul_assoc n m (product numbers)

product_reversed : (numbers : List ℕ) → product (reverse numbers) ≡ product numbers
product_reversed [] = refl
product_reversed (n ∷ numbers) =
    ap product (reverse-append (n ∷ []) numbers) ∙ product_last (reverse numbers) n ∙ ap (λ p. n * p) (product_reversed numbers)

-- ---- in the order in which a chunk is stored

pub ends_in_order : (order : MemoryOrder) (start shape edges : List ℕ) → EndWithin start shape edges
    → EndWithin (in_order order start) (in_order order shape) (in_order order edges)
ends_in_order C start shape edges within = within
ends_in_order F start shape edges within = ends_onto start shape edges [] [] [] within tt

pub some_in_order : (order : MemoryOrder) (shape : List ℕ) → (¬ Contains shape 0) → ¬ Contains (in_order order shape) 0
some_in_order C shape some = some
some_in_order F shape some = λ has. some (zero_reversed shape has)

pub product_in_order : (order : MemoryOrder) (edges : List ℕ) → product (in_order order edges) ≡ product edges
product_in_order C edges = refl
product_in_order F edges = product_reversed edges

-- ranges of the rows in that order are ranges of the box
pub ranges_in_order : (item : ℕ) (order : MemoryOrder) (edges start shape : List ℕ) (length : ℕ) (numbers : List ℕ)
    → AreRanges item C (in_order order edges) (in_order order start) (in_order order shape) length numbers
    → AreRanges item order edges start shape length numbers
ranges_in_order item C edges start shape long numbers are = are
ranges_in_order item F edges start shape long numbers are = record {
  those = λ byte. (
    λ (index, within, of). (are.those byte).0 (reverse index, inside_onto start shape index [] [] [] within tt, of),
    λ has. let (index, within, of) = (are.those byte).1 has in (
      reverse index,
      rw (reverse-reverse start, reverse-reverse shape) at (inside_onto (reverse start) (reverse shape) index [] [] [] within tt),
      rw (reverse-reverse index) of,
    ),
  );
  apart = are.apart;
  in_turn = λ number byte less of_range.
      let goes = are.in_turn number byte less of_range in
      record {
        index = reverse goes.index;
        within = rw (reverse-reverse start, reverse-reverse shape) at
            (inside_onto (reverse start) (reverse shape) goes.index [] [] [] goes.within tt);
        byte = goes.byte;
        of_element = goes.of_element;
        in_chunk = rw (reverse-reverse goes.index) goes.in_chunk;
        in_box = rw (reverse-reverse goes.index) goes.in_box;
      };
}
