-- What a look-up finds of a number along one dimension, and of 0 along the others.
use Rattle.std.proofs.Common.{◌≡◌, ◌≢◌, ◌∙◌, ℕ, zero, suc, ◌<◌, ◌≤◌, List, [], ◌∷◌, Contains, MatchOption, None, Option, Some, ap, arith, length, refl, replicate, slice_index_or, slice_set, subst, ⊎_elim}
use Rattle.std.proofs.lemmas.Bool.{cases_lt}
use Rattle.std.proofs.lemmas.List.{get_or-set_same, length-map, length-replicate}
use Rattle.std.specs.List.{AllByRecursion}
use Rattle.zarrs_chunk_base.specs.Dimension.{Dimension, HasEdge, Holds, InBox, InEach, IsChain, IsOrigin, IsShape, StartsAt, array_sizes, grid_sizes}
use Rattle.zarrs_chunk_base.specs.Greatest.{AllFit, greatest}
use Rattle.zarrs_chunk_base.proofs.InEach.{length_numbers, length_values}
use Rattle.zarrs_chunk_axes.specs.Along.{Along, FindsChunk, HoldsAlong, IsBelowAlong, IsRangeAlong}
use Rattle.zarrs_chunk_axes.specs.InBounds.{AreBelow}
use Rattle.zarrs_chunks.proofs.FittingChunks.{counted_home}

-- what holds in each dimension
each_along : (R : Dimension → ℕ → ℕ → Type 0) (ds : List Dimension) (numbers values : List ℕ) (k : ℕ) → InEach R ds numbers values → k < length ds
    → Along (λ d. R d (slice_index_or numbers k 0) (slice_index_or values k 0)) ds k
each_along R [] numbers values k each within = absurd (omega arith)
each_along R (d ∷ ds) (n ∷ numbers) (x ∷ values) zero each within = each.0
each_along R (d ∷ ds) (n ∷ numbers) (x ∷ values) (suc k) each within = each_along R ds numbers values k each.1 (omega arith)
each_along R (d ∷ ds) [] _ k each within = absurd each
each_along R (d ∷ ds) (_ ∷ _) [] k each within = absurd each

-- no size is 0, so 0 is below each
pub zeros_below : (sizes : List ℕ) → (¬ Contains sizes 0) → AreBelow sizes (replicate (length sizes) 0)
zeros_below [] some = tt
zeros_below (zero ∷ sizes) some = absurd (some (0, omega arith, refl))
zeros_below (suc n ∷ sizes) some = (omega arith, zeros_below sizes (λ (k, within, is). some (suc k, omega arith, is)))

below_along : (sizes : List ℕ) (k n : ℕ) → IsBelowAlong sizes k n → AreBelow sizes (slice_set (replicate (length sizes) 0) k n)
below_along [] k n (some, less) = absurd (omega arith)
below_along (s ∷ sizes) zero n (some, less) = (less, zeros_below sizes (λ (k, within, is). some (suc k, omega arith, is)))
below_along (zero ∷ sizes) (suc k) n (some, less) = absurd (some (0, omega arith, refl))
below_along (suc s ∷ sizes) (suc k) n (some, less) = (omega arith, below_along sizes k n ((λ (k, within, is). some (suc k, omega arith, is)), less))

-- ---- a number along one dimension of a grid, and 0 along the others

module _ (ds : List Dimension) (k n : ℕ) (numbers : List ℕ) (are : numbers ≡ slice_set (replicate (length ds) 0) k n) (within : k < length ds) where
  number_is : slice_index_or numbers k 0 ≡ n
  number_is =
      let long = length-replicate {A = ℕ} (length ds) 0 in
      ap (λ xs. slice_index_or xs k 0) are ∙ get_or-set_same {A = ℕ} (replicate (length ds) 0) k n 0 (omega (arith, long, within))

  -- what is found of it holds along the dimension
  found_along : (R : Dimension → ℕ → ℕ → Type 0) (values : List ℕ) → InEach R ds numbers values
      → Along (λ d. R d n (slice_index_or values k 0)) ds k
  found_along R values each =
      subst (λ m. Along (λ d. R d m (slice_index_or values k 0)) ds k) number_is (each_along R ds numbers values k each within)

  values_within : (R : Dimension → ℕ → ℕ → Type 0) (values : List ℕ) → InEach R ds numbers values → k < length values
  values_within R values each = omega (arith, length_values R ds numbers values each, within)

  -- an index
  pub chunk_holds : (chunk : List ℕ) → InBox ds chunk numbers → (k < length chunk) × HoldsAlong ds k n (slice_index_or chunk k 0)
  chunk_holds chunk box = (
    omega (arith, length_numbers Holds ds chunk numbers box, within),
    subst (λ i. HoldsAlong ds k i (slice_index_or chunk k 0)) number_is (each_along Holds ds chunk numbers k box within),
  )

  pub no_index : AllByRecursion IsChain ds → ((chunk : List ℕ) → ¬ InBox ds chunk numbers) → ¬ IsBelowAlong (array_sizes ds) k n
  no_index chains none below =
      let many : length (array_sizes ds) ≡ length ds = length-map ds (λ (d : Dimension). d.array_size) in
      let set = below_along (array_sizes ds) k n below in
      let (chunk, _, box) = counted_home ds numbers chains (rw are (subst (λ m. AreBelow (array_sizes ds) (slice_set (replicate m 0) k n)) many set)) in
      none chunk box

  -- a chunk
  pub chunk_starts : (origin : List ℕ) → IsOrigin ds numbers origin → (k < length origin) × Along (λ d. StartsAt d n (slice_index_or origin k 0)) ds k
  chunk_starts origin is = (values_within StartsAt origin is, found_along StartsAt origin is)

  pub chunk_is_long : (shape : List ℕ) → IsShape ds numbers shape → (k < length shape) × Along (λ d. HasEdge d n (slice_index_or shape k 0)) ds k
  chunk_is_long shape is = (values_within HasEdge shape is, found_along HasEdge shape is)

pub has_range : (ds : List Dimension) (k c start edge : ℕ) → Along (λ d. StartsAt d c start) ds k → Along (λ d. HasEdge d c edge) ds k
    → IsRangeAlong ds k c (start, edge)
has_range [] k c start edge starts long = absurd starts
has_range (d ∷ ds) zero c start edge starts long = record { start = starts; edge = long }
has_range (d ∷ ds) (suc k) c start edge starts long = has_range ds k c start edge starts long

cases_positive : (n : ℕ) → (n ≢ 0) → 0 < n
cases_positive zero some = absurd (some refl)
cases_positive (suc n) some = omega arith

zeros_fit : (n : ℕ) → AllFit (replicate n 0)
zeros_fit zero = tt
zeros_fit (suc n) = (omega arith, zeros_fit n)

-- the first chunks start at 0, where some are counted
zeros_start : (ds : List Dimension) → AllByRecursion IsChain ds → (¬ Contains (grid_sizes ds) 0)
    → IsOrigin ds (replicate (length ds) 0) (replicate (length ds) 0)
zeros_start [] chains some = tt
zeros_start (d ∷ ds) chains some =
    let counted : 0 < d.grid_size = cases_positive d.grid_size (λ none. some (0, omega arith, none)) in
    let there = chains.0.counted 0 counted in (
      record { chunk = there; start = chains.0.from_zero there },
      zeros_start ds chains.1 (λ (k, within, is). some (suc k, omega arith, is)),
    )

-- a chunk that is counted, and starts no later than the greatest number, has an origin that fits
origin_along : (ds : List Dimension) (k c : ℕ) (range : ℕ × ℕ) → AllByRecursion IsChain ds → IsBelowAlong (grid_sizes ds) k c
    → IsRangeAlong ds k c range → range.0 ≤ greatest
    → (origin : List ℕ) × IsOrigin ds (slice_set (replicate (length ds) 0) k c) origin × AllFit origin
origin_along [] k c range chains below is fits = absurd is
origin_along (d ∷ ds) zero c range chains (some, less) is fits =
    let others = zeros_start ds chains.1 (λ (k, within, is). some (suc k, omega arith, is)) in
    (range.0 ∷ replicate (length ds) 0, (is.start, others), (fits, zeros_fit (length ds)))
origin_along (d ∷ ds) (suc k) c range chains (some, less) is fits =
    let counted : 0 < d.grid_size = cases_positive d.grid_size (λ none. some (0, omega arith, none)) in
    let there = chains.0.counted 0 counted in
    let (origin, others, fit) = origin_along ds k c range chains.1 ((λ (k, within, is). some (suc k, omega arith, is)), less) is fits in
    (0 ∷ origin, (record { chunk = there; start = chains.0.from_zero there }, others), (omega arith, fit))

pub no_range : (ds : List Dimension) (k c : ℕ) (numbers : List ℕ) → AllByRecursion IsChain ds → numbers ≡ slice_set (replicate (length ds) 0) k c
    → ((origin : List ℕ) → IsOrigin ds numbers origin → ¬ AllFit origin) → IsBelowAlong (grid_sizes ds) k c
    → (range : ℕ × ℕ) → IsRangeAlong ds k c range → greatest < range.0
no_range ds k c numbers chains are none below range is =
    ⊎_elim (λ (past : greatest < range.0). past)
    (λ (fits : range.0 ≤ greatest). let (origin, starts, fit) = origin_along ds k c range chains below is fits in absurd (none origin (rw are starts) fit))
    (cases_lt greatest range.0)

-- ---- the grids of this library

pub reaches_along : (ds : List Dimension) (k i : ℕ) → AllByRecursion IsChain ds → i < slice_index_or (array_sizes ds) k 0
    → (c : ℕ) × HoldsAlong ds k i c
reaches_along [] k i chains less = absurd (omega arith)
reaches_along (d ∷ ds) zero i chains less = let (c, _, here) = chains.0.reaches i less in (c, here)
reaches_along (d ∷ ds) (suc k) i chains less = reaches_along ds k i chains.1 less

-- so what their axes find is what a grid answers
pub found_of_axes : (ds : List Dimension) (k i : ℕ) (found : Option ℕ) → AllByRecursion IsChain ds
    → MatchOption found ((c : ℕ) → ¬ HoldsAlong ds k i c) (HoldsAlong ds k i)
    → FindsChunk ds k i found
found_of_axes ds k i None chains none = λ below. let (c, holds) = reaches_along ds k i chains below.1 in none c holds
found_of_axes ds k i (Some c) chains holds = holds
