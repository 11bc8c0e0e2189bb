-- The largest chunk of those that hold some of a box is a longest one along each dimension.
use Rattle.std.proofs.Common.{◌≡◌, ◌∙◌, ℕ, zero, suc, ◌+◌, ◌-◌, ◌*◌, ◌/◌, ◌<◌, ◌≤◌, List, [], ◌∷◌, ◌++◌, Contains, length, map, max, min, ap, sym}
use Rattle.std.proofs.Common.{⊎_elim, arith, slice_index_or, take, mul_assoc}
use Rattle.std.proofs.Math.Nat.{div-mul-le_self, mul-le-mul_right}
use Rattle.std.proofs.lemmas.Bool.{cases_lt}
use Rattle.std.proofs.lemmas.List.{length-map, map-append, take_all, take_more}
use Rattle.std.specs.List.{AllByRecursion, range_with_len}
use Rattle.zarrs_chunk_base.specs.ArraySubset.{Box, IsBox, IsEmptyBox, ends, lasts}
use Rattle.zarrs_chunk_base.specs.Dimension.{Dimension, HasEdge, Holds, InBox, IsChain, array_sizes}
use Rattle.zarrs_chunk_base.specs.Greatest.{AllFit, greatest}
use Rattle.zarrs_chunk_base.proofs.InEach.{length_numbers, length_values}
use Rattle.zarrs_chunk_axes.specs.Along.{Along, IsRegular}
use Rattle.zarrs_chunks.specs.Subsets.{IsCover}
use Rattle.zarrs_chunks.specs.Walks.{chunks_in}
use Rattle.zarrs_chunks.proofs.Chains.{no_later}
use Rattle.zarrs_chunks.proofs.Covers.{head_some, tail_some}
use Rattle.zarrs_chunk_parts.specs.Plan.{Covers}
use Rattle.zarrs_chunk_plan.specs.Counts.{product}
use Rattle.zarrs_chunk_plan.specs.Region.{EndWithin, LiesIn}
use Rattle.zarrs_chunk_plan.specs.seen.Sources.{met_by, met_in}
use Rattle.zarrs_chunk_plan.specs.seen.Used.{HoldsSome}
use Rattle.zarrs_chunk_plan.proofs.Plans.{covers_some}
use Rattle.zarrs_chunk_plan.proofs.Products.{greatest_of, greatest_of_products, met_by_all}
use Rattle.zarrs_chunk_tasks.specs.Cheapest.{IsLargestChunk}
use Rattle.zarrs_chunk_tasks.specs.seen.LargestChunk.{IsLongestOf}
use Rattle.zarrs_chunk_tasks.proofs.CountsOfEach.{edges, map_of_map, shapes_of_cover, tables_long}
use Rattle.zarrs_chunk_tasks.proofs.Grouped.{next_group}
use Rattle.zarrs_chunk_tasks.proofs.RegularSums.{ends as chunk_ends, starts}
use Rattle.zarrs_chunk_tasks.proofs.SumsAlong.{greatest_more}

-- ---- one dimension

-- how long a chunk is
abbrev edge_of : Dimension → ℕ → ℕ
edge_of d c = d.end c - d.start c

-- the longest of one chunk more
pub longest_more : (d : Dimension) (first many longest edge after : ℕ) → IsLongestOf first many longest d → HasEdge d (first + many) edge
    → after ≡ max longest edge → IsLongestOf first (many + 1) after d
longest_more d first many longest edge after is has after_is = omega (arith, greatest_more (edge_of d) first many, is, has.edge, after_is)

-- before a chunk that holds an element of the array all chunks of a regular dimension have its edge
pub edge_before : (d : Dimension) → IsChain d → (edge : ℕ) → 0 < edge → IsRegular d edge → (last c : ℕ) → HoldsSome d last → c < last → edge_of d c ≡ edge
edge_before d chain edge some regular last c (has, any, within) before =
    let i = d.start last in
    let here : Holds d last i = record { chunk = has; from = omega arith; below = any } in
    let there = regular i within in
    let low = no_later d chain last (i / edge) i i (omega arith) here there in
    let up_to = mul-le-mul_right {m = c + 1} {n = i / edge} edge (omega arith) in
    let below = div-mul-le_self i edge in
    let next = next_group c edge in
    let (_, start) = starts d edge chain some regular c (omega (arith, up_to, below, within, next)) in
    let end = chunk_ends d edge chain some regular c (omega (arith, up_to, below, within)) in
    omega (arith, start, end, next)

-- the greatest of numbers that are one number
all_alike : (f : ℕ → ℕ) (edge first n : ℕ) → ((c : ℕ) → c < first + (n + 1) → f c ≡ edge) → greatest_of (map f (range_with_len first (n + 1))) ≡ edge
all_alike f edge first zero each = omega (arith, greatest_more f first 0, each (first + 0) (omega arith))
all_alike f edge first (suc n) each =
    let one : n + 1 ≡ suc n = omega arith in
    let rest = rw one at (all_alike f edge first n (λ c below. each c (omega arith))) in
    omega (arith, greatest_more f first (suc n), rest, each (first + suc n) (omega arith))

-- along a regular dimension the longest one has that edge, or it is the last one
pub longest_of_regular : (d : Dimension) → IsChain d → (edge : ℕ) → 0 < edge → IsRegular d edge → (first many last longest : ℕ) → 1 < many
    → HoldsSome d (first + (many - 1)) → HasEdge d (first + (many - 1)) last → longest ≡ max last edge → IsLongestOf first many longest d
longest_of_regular d chain edge some regular first many last longest more holds is_last longest_is =
    let one : many - 2 + 1 ≡ many - 1 = omega arith in
    let all : many - 1 + 1 ≡ many = omega arith in
    let rest = rw one at (all_alike (edge_of d) edge first (many - 2)
    (λ c below. edge_before d chain edge some regular (first + (many - 1)) c holds (omega arith))) in
    rw all at (longest_more d first (many - 1) edge last longest (sym rest) is_last (omega (arith, longest_is)))

-- ---- products up to the greatest number

pub product_more : (xs : List ℕ) (x : ℕ) → product (xs ++ x ∷ []) ≡ product xs * x
product_more [] x = omega arith
product_more (y ∷ xs) x = ap (λ n. y * n) (product_more xs x) ∙ sym (mul_assoc y (product xs) x)

-- a factor that is cut at the greatest number makes no difference where what comes of it is cut, too
pub capped : (p x : ℕ) → min (min greatest p * x) greatest ≡ min greatest (p * x)
capped p x =
    ⊎_elim (λ (more : greatest < p). past x more)
    (λ (le : p ≤ greatest). let same : min greatest p ≡ p = omega arith in rw same (omega arith)) (cases_lt greatest p) where
      past : (x : ℕ) → greatest < p → min (min greatest p * x) greatest ≡ min greatest (p * x)
      past zero more = omega arith
      past (suc x) more = let same : min greatest p ≡ greatest = omega arith in rw same (omega arith)

-- ---- all dimensions

-- the product of the longest ones along the first dimensions, where along each there are so many chunks from a first one on
abbrev pub IsLargestSoFar : List Dimension → (first many : List ℕ) → (k largest : ℕ) → Type 0
IsLargestSoFar ds first many k largest = largest ≡ min greatest (product (map greatest_of (take k (met_in (edges ds) first many))))

-- the longest chunk along the dimension of a number is the greatest of its row
row_at : (ds : List Dimension) (start shape : List ℕ) (k edge : ℕ) → length start ≡ length ds → length shape ≡ length ds
    → Along (IsLongestOf (slice_index_or start k 0) (slice_index_or shape k 0) edge) ds k
    → edge ≡ greatest_of (slice_index_or (met_in (edges ds) start shape) k [])
row_at (d ∷ ds) (a ∷ start) (n ∷ shape) zero edge e f is = is
row_at (d ∷ ds) (a ∷ start) (n ∷ shape) (suc k) edge e f is = row_at ds start shape k edge (omega arith) (omega arith) is
row_at _ _ _ k edge e f is = absurd (first_of (assumption, omega arith))

-- what is asked of the chunks along one dimension
abbrev pub CanBeGoneThrough : List Dimension → (dimension first many : ℕ) → Type 0
CanBeGoneThrough ds dimension first many = (first + many ≤ greatest) × Along (λ d. HoldsSome d (first + (many - 1))) ds dimension

-- the last chunk of a cover holds the last index of the box, which is one of the array
each_can : (ds : List Dimension) (start shape at sizes : List ℕ) (k : ℕ) → length start ≡ length ds → length shape ≡ length ds → length at ≡ length ds
    → length sizes ≡ length ds → AllFit (ends start shape) → InBox ds (lasts start shape) (lasts at sizes)
    → EndWithin at sizes (array_sizes ds) → (¬ Contains sizes 0) → k < length ds
    → CanBeGoneThrough ds k (slice_index_or start k 0) (slice_index_or shape k 0)
each_can (d ∷ ds) (a ∷ start) (n ∷ shape) (b ∷ at) (m ∷ sizes) zero e f g h fit last lies any within =
    let here = last.0 in
    let low = here.from in
    let high = here.below in
    let size = head_some m sizes any in
    let inside = lies.0 in
    (fit.0, (here.chunk, omega arith, omega arith))
each_can (d ∷ ds) (a ∷ start) (n ∷ shape) (b ∷ at) (m ∷ sizes) (suc k) e f g h fit last lies any within =
    each_can ds start shape at sizes k (omega arith) (omega arith) (omega arith) (omega arith) fit.1 last.1 lies.1
    (tail_some m sizes any) (omega arith)
each_can _ _ _ _ _ k e f g h fit last lies any within = absurd (omega arith)

module _ (ds : List Dimension) (b cover : Box) (chains : AllByRecursion IsChain ds) (is_box : IsBox b) (some : ¬ IsEmptyBox b)
    (lies : LiesIn b (array_sizes ds)) (is : IsCover ds b cover) where
  -- along each dimension, how long the chunks are
  abbrev table : List (List ℕ)
  table = met_in (edges ds) cover.start cover.shape

  first_long : length cover.start ≡ length ds
  first_long = length_numbers Holds ds cover.start b.start is.first

  many_long : length cover.shape ≡ length ds
  many_long = sym is.is_box.lengths ∙ first_long

  start_long : length b.start ≡ length ds
  start_long = length_values Holds ds cover.start b.start is.first

  counters_long : length (edges ds) ≡ length ds
  counters_long = length-map ds (λ (d : Dimension). edge_of d)

  table_long : length table ≡ length ds
  table_long =
      tables_long (edges ds) cover.start cover.shape (omega (arith, first_long, counters_long)) (omega (arith, many_long, counters_long)) ∙ counters_long

  pub can_be : (k : ℕ) → k < length cover.start → CanBeGoneThrough ds k (slice_index_or cover.start k 0) (slice_index_or cover.shape k 0)
  can_be k within =
      each_can ds cover.start cover.shape b.start b.shape k first_long many_long start_long (sym is_box.lengths ∙ start_long) is.is_box.fits is.last lies some
      (omega (arith, within, first_long))

  pub one_more : (k largest edge after : ℕ) → k < length cover.start → IsLargestSoFar ds cover.start cover.shape k largest
      → Along (IsLongestOf (slice_index_or cover.start k 0) (slice_index_or cover.shape k 0) edge) ds k → after ≡ min (largest * edge) greatest
      → IsLargestSoFar ds cover.start cover.shape (k + 1) after
  one_more k largest edge after within so_far longest after_is =
      let p = product (map greatest_of (take k table)) in
      let row = row_at ds cover.start cover.shape k edge first_long many_long longest in
      let next = ap product (ap (map greatest_of) (take_more table k [] (omega (arith, table_long, first_long, within)))
      ∙ map-append greatest_of (take k table) (slice_index_or table k [] ∷ []))
      ∙ product_more (map greatest_of (take k table)) (greatest_of (slice_index_or table k []))
      in
      after_is ∙ ap (λ n. min (n * edge) greatest) so_far ∙ capped p edge ∙ ap (λ n. min greatest (p * n)) row ∙ ap (min greatest) (sym next)

  pub is_largest : (k largest : ℕ) → length cover.start ≤ k → IsLargestSoFar ds cover.start cover.shape k largest
      → (exact : ℕ) × IsLargestChunk ds b exact × (largest ≡ min greatest exact)
  is_largest k largest ended so_far = (
    product (map greatest_of table),
    record {
      cover = cover;
      is_cover = covers;
      shapes = map (met_by (edges ds)) (chunks_in cover);
      are_shapes = shapes_of_cover ds b cover is.is_box covers;
      largest_is =
          ap greatest_of (map_of_map product (met_by (edges ds)) (chunks_in cover))
          ∙ ap greatest_of (met_by_all (edges ds) cover.start cover.shape (omega (arith, first_long, counters_long)) (omega (arith, many_long, counters_long)))
          ∙ greatest_of_products table;
    },
    so_far ∙ ap (λ lists. min greatest (product (map greatest_of lists))) (take_all k table (omega (arith, table_long, first_long, ended))),
  ) where
    covers : Covers ds b cover
    covers = covers_some ds b cover chains is_box some is
