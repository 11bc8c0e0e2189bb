-- What look-ups that give two numbers have found so far, and what the two lists of all that they found are.
use Rattle.std.proofs.Common.{◌≡◌, ℕ, ◌+◌, List, [], ◌∷◌, ◌++◌, length, map, refl}
use Rattle.std.proofs.lemmas.List.{map-append}
use Rattle.zarrs_chunk_base.specs.ArraySubset.{ends}
use Rattle.zarrs_chunk_base.specs.Dimension.{Dimension, Holds, InBox, InEach, IsOrigin, IsPlace, IsShape}
use Rattle.zarrs_chunk_base.specs.Greatest.{AllFit}
use Rattle.zarrs_chunk_base.proofs.InEach.{by_dimension}
use Rattle.zarrs_chunk_axes.specs.LookUp.{AreRanges, HasRange}
use Rattle.zarrs_chunk_axes.proofs.EachSoFar.{EachSoFar}
use Rattle.zarrs_chunk_axes.proofs.EachSoFar as each

abbrev pub first_of : ℕ × ℕ → ℕ
first_of pair = pair.0

abbrev pub second_of : ℕ × ℕ → ℕ
second_of pair = pair.1

module _ (finds : Dimension → ℕ → ℕ × ℕ → Type 0) (misses : Dimension → ℕ → Type 0) where
  -- the two lists hold what was found so far
  pub record PairsSoFar (ds : List Dimension) (numbers : List ℕ) (ds_left : List Dimension) (numbers_left firsts seconds : List ℕ) : Type 0 where
    pub pairs : List (ℕ × ℕ)
    pub so_far : EachSoFar finds misses ds numbers ds_left numbers_left pairs
    pub firsts_are : firsts ≡ map first_of pairs
    pub seconds_are : seconds ≡ map second_of pairs

  pub none_yet : (ds : List Dimension) (numbers : List ℕ) → length ds ≡ length numbers → PairsSoFar ds numbers ds numbers [] []
  none_yet ds numbers lengths = record {
    pairs = [];
    so_far = record { lengths = lengths; all = λ more h. h; none = λ h. h };
    firsts_are = refl;
    seconds_are = refl;
  }

  pub one_more : (ds : List Dimension) (numbers : List ℕ) (d : Dimension) (n first second : ℕ) (ds_left : List Dimension)
      (numbers_left firsts seconds : List ℕ)
      → PairsSoFar ds numbers (d ∷ ds_left) (n ∷ numbers_left) firsts seconds → finds d n (first, second)
      → PairsSoFar ds numbers ds_left numbers_left (firsts ++ first ∷ []) (seconds ++ second ∷ [])
  one_more ds numbers d n first second ds_left numbers_left firsts seconds before is = record {
    pairs = before.pairs ++ (first, second) ∷ [];
    so_far = each.one_more finds misses ds numbers d n (first, second) ds_left numbers_left before.pairs before.so_far is;
    firsts_are = rw (map-append first_of before.pairs ((first, second) ∷ []), before.firsts_are) refl;
    seconds_are = rw (map-append second_of before.pairs ((first, second) ∷ []), before.seconds_are) refl;
  }

-- a chunk that holds the index, and the index's place in it
abbrev pub IsHomeIn : Dimension → ℕ → ℕ × ℕ → Type 0
IsHomeIn d i home = Holds d home.0 i × (d.start home.0 + home.1 ≡ i)

-- in all dimensions
pub homes : (ds : List Dimension) (index : List ℕ) (pairs : List (ℕ × ℕ)) → InEach IsHomeIn ds index pairs
    → InBox ds (map first_of pairs) index × IsPlace ds (map first_of pairs) index (map second_of pairs)
homes =
    by_dimension IsHomeIn
    (λ ds index pairs. InBox ds (map first_of pairs) index × IsPlace ds (map first_of pairs) index (map second_of pairs)) (tt, tt)
    (λ d i home ds index pairs here rest. ((here.0, rest.0), (here.1, rest.1)))

-- where a chunk starts in all dimensions, and how long it is there
pub ranges : (ds : List Dimension) (chunk : List ℕ) (pairs : List (ℕ × ℕ)) → InEach HasRange ds chunk pairs
    → AreRanges ds chunk (map first_of pairs) (map second_of pairs)
ranges =
    by_dimension HasRange (λ ds chunk pairs. AreRanges ds chunk (map first_of pairs) (map second_of pairs))
    (record { origin = tt; shape = tt; fits = tt })
    (λ d c range ds chunk pairs here rest.
    record { origin = (here.start, rest.origin); shape = (here.edge, rest.shape); fits = (here.fits, rest.fits) })

-- the other way round
pub each_range : (ds : List Dimension) (chunk starts sizes : List ℕ) → AreRanges ds chunk starts sizes
    → (pairs : List (ℕ × ℕ)) × InEach HasRange ds chunk pairs
each_range ds chunk starts sizes are = paired ds chunk starts sizes are.origin are.shape are.fits where
  paired : (ds : List Dimension) (chunk starts sizes : List ℕ) → IsOrigin ds chunk starts → IsShape ds chunk sizes → AllFit (ends starts sizes)
      → (pairs : List (ℕ × ℕ)) × InEach HasRange ds chunk pairs
  paired [] [] [] [] origin shape fits = ([], tt)
  paired (d ∷ ds) (c ∷ chunk) (o ∷ starts) (s ∷ sizes) origin shape fits =
      let (pairs, each) = paired ds chunk starts sizes origin.1 shape.1 fits.1 in
      ((o, s) ∷ pairs, (record { start = origin.0; edge = shape.0; fits = fits.0 }, each))
  paired (_ ∷ _) (_ ∷ _) [] _ origin shape fits = absurd origin
  paired (_ ∷ _) (_ ∷ _) (_ ∷ _) [] origin shape fits = absurd shape
  paired (_ ∷ _) [] _ _ origin shape fits = absurd origin
  paired [] (_ ∷ _) _ _ origin shape fits = absurd origin
  paired [] [] (_ ∷ _) _ origin shape fits = absurd origin
  paired [] [] [] (_ ∷ _) origin shape fits = absurd shape
