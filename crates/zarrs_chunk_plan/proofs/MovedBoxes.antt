-- Boxes that lie in an array.
use Rattle.zarrs_chunk_plan.proofs.Common.{◌≡◌, ◌≢◌, ◌↔◌, ℕ, suc, ◌+◌, ◌≤◌, List, [], ◌∷◌, Contains, length, replicate, zip, refl, ap, arith, subst}
use Rattle.zarrs_chunk_plan.proofs.Common.{sym, length-map, AllByRecursion, AreWithin, Box, IsBox, IsEmptyBox, Dimension, array_sizes, AllFit}
use Rattle.zarrs_chunk_plan.proofs.Common.{AreBelow, EndWithin, lasts, zero_box, head_some, tail_some}
use Rattle.zarrs_chunk_plan.specs.Region.{LiesIn}

-- each range ends within the array exactly where all do
pub all_end_within : (start shape sizes : List ℕ) → length start ≡ length sizes → length shape ≡ length sizes
    → AllByRecursion (λ p. p.0.0 + p.0.1 ≤ p.1) (zip (zip start shape) sizes) ↔ EndWithin start shape sizes
all_end_within [] [] [] e f = (λ _. tt, λ _. tt)
all_end_within (s ∷ start) (n ∷ shape) (size ∷ sizes) e f =
    let rest = all_end_within start shape sizes (omega arith) (omega arith) in
    (λ all. (all.0, rest.0 all.1), λ within. (within.0, rest.1 within.1))
all_end_within _ _ _ e f = absurd (omega arith)

-- such a box is a box
pub box_within : (start shape sizes : List ℕ) → AllFit sizes → EndWithin start shape sizes → IsBox (record { start = start; shape = shape })
box_within [] [] [] fit within = record { lengths = refl; fits = tt }
box_within (s ∷ start) (n ∷ shape) (size ∷ sizes) fit within =
    let rest = box_within start shape sizes fit.1 within.1 in
    record { lengths = ap suc rest.lengths; fits = (omega arith, rest.fits) }
box_within _ _ _ fit within = absurd within

-- and has as many dimensions as the array; some, if it is empty
pub within_long : (start shape sizes : List ℕ) → EndWithin start shape sizes → length shape ≡ length sizes
within_long [] [] [] within = refl
within_long (s ∷ start) (n ∷ shape) (size ∷ sizes) within = ap suc (within_long start shape sizes within.1)
within_long _ _ _ within = absurd within

pub within_starts : (start shape sizes : List ℕ) → EndWithin start shape sizes → length start ≡ length sizes
within_starts [] [] [] within = refl
within_starts (s ∷ start) (n ∷ shape) (size ∷ sizes) within = ap suc (within_starts start shape sizes within.1)
within_starts _ _ _ within = absurd within

pub some_dimension : (start shape sizes : List ℕ) → EndWithin start shape sizes → Contains shape 0 → length sizes ≢ 0
some_dimension start shape sizes within (k, counted, is) none = let long = within_long start shape sizes within in absurd (omega arith)

-- what lies in it is an index of the array
pub within_below : (start shape sizes index : List ℕ) → EndWithin start shape sizes → AreWithin start shape index → AreBelow sizes index
within_below [] [] [] [] lies within = tt
within_below (s ∷ start) (n ∷ shape) (size ∷ sizes) (i ∷ index) lies within =
    (omega arith, within_below start shape sizes index lies.1 within.2)
within_below [] [] [] (_ ∷ _) lies within = absurd within
within_below (_ ∷ _) (_ ∷ _) (_ ∷ _) [] lies within = absurd within
within_below _ _ _ _ lies within = absurd lies

-- the whole array lies in itself
pub whole_within : (sizes : List ℕ) → EndWithin (replicate (length sizes) 0) sizes sizes
whole_within [] = tt
whole_within (size ∷ sizes) = (omega arith, whole_within sizes)

-- so does a box of which the last element is one of the array, and an empty one that begins at 0
pub lasts_lie : (start shape sizes : List ℕ) → length start ≡ length shape → (¬ Contains shape 0) → AreBelow sizes (lasts start shape)
    → EndWithin start shape sizes
lasts_lie [] [] [] e some below = tt
lasts_lie (s ∷ start) (n ∷ shape) (size ∷ sizes) e some below =
    let here = head_some n shape some in
    (omega (arith, here, below.0), lasts_lie start shape sizes (omega arith) (tail_some n shape some) below.1)
lasts_lie [] [] (_ ∷ _) e some below = absurd below
lasts_lie (_ ∷ _) (_ ∷ _) [] e some below = absurd below
lasts_lie [] (_ ∷ _) _ e some below = absurd (omega arith)
lasts_lie (_ ∷ _) [] _ e some below = absurd (omega arith)

zeros_within : (sizes : List ℕ) → EndWithin (replicate (length sizes) 0) (replicate (length sizes) 0) sizes
zeros_within [] = tt
zeros_within (size ∷ sizes) = (omega arith, zeros_within sizes)

pub zeros_lie : (ds : List Dimension) → LiesIn (zero_box (length ds)) (array_sizes ds)
zeros_lie ds =
    let many : length (array_sizes ds) ≡ length ds = length-map ds (λ (d : Dimension). d.array_size) in rw (sym many) (zeros_within (array_sizes ds))

-- where an empty box lies there are dimensions
pub lies_some : (ds : List Dimension) (b : Box) → LiesIn b (array_sizes ds) → IsEmptyBox b → length ds ≢ 0
lies_some ds b lies empty =
    let many = length-map ds (λ (d : Dimension). d.array_size) in subst (λ n. n ≢ 0) many (some_dimension b.start b.shape (array_sizes ds) lies empty)
