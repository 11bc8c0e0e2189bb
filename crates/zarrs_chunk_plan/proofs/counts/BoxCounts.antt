-- How many lists a box has.
use Rattle.zarrs_chunk_plan.proofs.Common.{◌≡◌, ◌↔◌, ◌∙◌, ℕ, ◌*◌, List, [], ◌∷◌, length, ap, refl, Box, IsBox, IsInside}
use Rattle.zarrs_chunk_plan.proofs.Common.{row_major, chunks_in, are_those_inside, chunks_once, AreMany, product}
use Rattle.zarrs_chunk_plan.proofs.ByNumber.{as_many, length-shape}

-- as many lists are below a shape as the product of its numbers
pub below_shape : (shape : List ℕ) → length (row_major shape) ≡ product shape
unfolding row_major
below_shape [] = refl
below_shape (n ∷ shape) = length-shape n shape ∙ ap (λ m. n * m) (below_shape shape)

pub in_box_many : (b : Box) → length (chunks_in b) ≡ product b.shape
in_box_many b = as_many b.start b.shape ∙ below_shape b.shape

-- so many have a property that those in the box have, and no others
pub box_many : (b : Box) (P : List ℕ → Type 0) → IsBox b → ((numbers : List ℕ) → IsInside b numbers ↔ P numbers) → AreMany P (product b.shape)
box_many b P is_box same = record {
  members = chunks_in b;
  once = chunks_once b is_box;
  are_those = λ numbers. (
    λ has. (same numbers).0 ((are_those_inside b is_box numbers).0 has),
    λ holds. (are_those_inside b is_box numbers).1 ((same numbers).1 holds),
  );
  as_many = in_box_many b;
}
