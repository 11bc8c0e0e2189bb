-- A walk through the lists below a shape from the one with a number on.
use Rattle.zarrs_chunk_plan.proofs.Common.{◌≡◌, ◌∙◌, ℕ, ◌-◌, List, [], ◌∷◌, Some, drop, length, map, refl, replicate, sym, arith, take-length}
use Rattle.zarrs_chunk_plan.proofs.Common.{drop-map, length-drop, slice_get, AreBelow, row_major, chunks_in, counted_from, between, rank, Box, IsBox}
use Rattle.zarrs_chunk_plan.proofs.BoxCover.{below_from_zero}
use Rattle.zarrs_chunk_plan.specs.seen.StoredChunks.{place_of}
use Rattle.zarrs_chunk_plan.proofs.copy.MarkedChunks.{at_place, in_box, same_number}

-- as many lists come before one as chunks before it in the box from 0
rank_is : (shape numbers : List ℕ) → AreBelow shape numbers → place_of (replicate (length shape) 0) shape numbers ≡ rank shape numbers
rank_is [] [] below = refl
rank_is (size ∷ shape) (n ∷ numbers) below = let here : n - 0 ≡ n = omega arith in rw (here, rank_is shape numbers below.1) refl
rank_is _ _ below = absurd below

-- so as many come before the list with a number
pub at_number : (shape list : List ℕ) (number : ℕ) → IsBox (record { start = replicate (length shape) 0; shape = shape })
    → slice_get (chunks_in (record { start = replicate (length shape) 0; shape = shape })) number ≡ Some list
    → AreBelow shape list × (rank shape list ≡ number)
at_number shape list number is_box is =
    let zeros = replicate (length shape) 0 in
    let b : Box = record { start = zeros; shape = shape } in
    let inside = in_box b is_box number list is in
    let below = (below_from_zero (length shape) shape list refl).1 inside in
    (below, sym (rank_is shape list below) ∙ same_number b is_box list (place_of zeros shape list) number (at_place zeros shape list inside) is)

-- what is left from there on
pub left_from : (start shape next : List ℕ) (number : ℕ) → rank shape next ≡ number
    → map (counted_from start) (between (rank shape next) (length (row_major shape)) (row_major shape))
    ≡ drop number (map (counted_from start) (row_major shape))
left_from start shape next number is =
    let lists = row_major shape in
    let long : length lists - number ≡ length (drop number lists) = sym (length-drop number lists) in
    rw (is, long, take-length (drop number lists)) (sym (drop-map (counted_from start) number lists))
