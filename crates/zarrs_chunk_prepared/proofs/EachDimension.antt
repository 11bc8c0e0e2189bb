-- What holds along each dimension of a prepared grid holds of the grid.
use Rattle.std.proofs.Common.{◌≡◌, ◌∙◌, ℕ, zero, suc, ◌+◌, ◌<◌, ◌≤◌, ◌^◌, List, [], ◌∷◌, arith, get_or, length, map, refl, sym}
use Rattle.std.proofs.lemmas.List.{length-map}
use Rattle.std.proofs.lemmas.Slice.Zip.{AllZip-long}
use Rattle.std.specs.List.{AllByRecursion, AllZip}
use Rattle.zarrs_chunk_axes.specs.LookUp.{AreRanges}
use Rattle.zarrs_chunk_base.specs.ArraySubset.{ends}
use Rattle.zarrs_chunk_base.specs.Dimension.{Dimension, HasEdge, InEach, IsChain, IsPlace, StartsAt, grid_sizes}
use Rattle.zarrs_chunk_base.specs.Greatest.{AllFit, greatest}
use Rattle.zarrs_chunk_prepared.specs.Prepared.{IsTableOf}
use Rattle.zarrs_chunk_prepared.specs.declared.axis.PreparedAxis.{PreparedAxis}
use Rattle.zarrs_chunk_prepared.specs.seen.Axis.{table_of}
use Rattle.zarrs_chunk_prepared.specs.seen.PreparedGrid.{HasNoRangeIn, IsPlaceIn, IsRangeIn, Misses, table_at}
use Rattle.zarrs_chunks.specs.Subsets.{HasNoBox, HasNoHome, Spans}
use Rattle.zarrs_chunks.proofs.Subsets.{is_end, no_ranges}

-- there are as many dimensions
pub as_many : (ds : List Dimension) (axes : List PreparedAxis) → AllZip IsTableOf ds (map table_of axes) → length ds ≡ length axes
as_many ds axes are = sym (AllZip-long IsTableOf ds (map table_of axes) are) ∙ length-map axes table_of

-- what two numbers are to each dimension
pub in_each : (R : Dimension → ℕ → ℕ → Type 0) (ds : List Dimension) (axes : List PreparedAxis) (xs ys : List ℕ)
    → AllZip IsTableOf ds (map table_of axes) → length xs ≡ length axes → length ys ≡ length axes
    → ((k : ℕ) → k < length axes → (d : Dimension) → IsTableOf d (table_at axes k) → R d (get_or xs k 0) (get_or ys k 0)) → InEach R ds xs ys
in_each R [] [] [] [] are xs_long ys_long each = tt
in_each R (d ∷ ds) (a ∷ axes) (x ∷ xs) (y ∷ ys) are xs_long ys_long each = (
  each 0 (omega arith) d are.0,
  in_each R ds axes xs ys are.1 (omega arith) (omega arith) (λ k less. each (suc k) (omega arith)),
)
in_each R [] (_ ∷ _) _ _ are xs_long ys_long each = absurd are
in_each R (_ ∷ _) [] _ _ are xs_long ys_long each = absurd are
in_each R _ _ _ _ are xs_long ys_long each = absurd (omega arith)

-- the place is that of the index
pub is_place : (ds : List Dimension) (axes : List PreparedAxis) (index chunk place : List ℕ) → AllZip IsTableOf ds (map table_of axes)
    → length index ≡ length axes → length chunk ≡ length axes → length place ≡ length axes
    → ((k : ℕ) → k < length axes → IsPlaceIn (table_at axes k) (get_or index k 0) (get_or chunk k 0) (get_or place k 0))
    → IsPlace ds chunk index place
is_place [] [] [] [] [] are index_long chunk_long place_long each = tt
is_place (d ∷ ds) (a ∷ axes) (i ∷ index) (c ∷ chunk) (p ∷ place) are index_long chunk_long place_long each = (
  each 0 (omega arith) d are.0,
  is_place ds axes index chunk place are.1 (omega arith) (omega arith) (omega arith) (λ k less. each (suc k) (omega arith)),
)
is_place [] (_ ∷ _) _ _ _ are index_long chunk_long place_long each = absurd are
is_place (_ ∷ _) [] _ _ _ are index_long chunk_long place_long each = absurd are
is_place _ _ _ _ _ are index_long chunk_long place_long each = absurd (omega arith)

-- an index that lies in no chunk along a dimension has no home
pub no_home : (ds : List Dimension) (axes : List PreparedAxis) (index : List ℕ) → AllZip IsTableOf ds (map table_of axes)
    → ((k : ℕ) → get_or index k 0 < 2 ^ 64) → (k : ℕ) → k < length axes → Misses (table_at axes k) (get_or index k 0) → HasNoHome ds index
no_home (d ∷ ds) (a ∷ axes) (i ∷ index) are fits zero within misses (c ∷ chunk) box =
    are.0.no_home i (let fit = fits 0 in omega arith) misses c box.0
no_home (d ∷ ds) (a ∷ axes) (i ∷ index) are fits (suc k) within misses (c ∷ chunk) box =
    no_home ds axes index are.1 (λ k. fits (suc k)) k (omega arith) misses chunk box.1
no_home [] [] index are fits k within misses chunk box = absurd (omega arith)
no_home [] (_ ∷ _) index are fits k within misses chunk box = absurd are
no_home (_ ∷ _) [] index are fits k within misses chunk box = absurd are
no_home (d ∷ ds) (a ∷ axes) [] are fits k within misses [] box = absurd box
no_home (d ∷ ds) (a ∷ axes) [] are fits k within misses (_ ∷ _) box = absurd box
no_home (d ∷ ds) (a ∷ axes) (i ∷ index) are fits k within misses [] box = absurd box

-- the sizes of the grid
pub sizes_are : (ds : List Dimension) (axes : List PreparedAxis) (sizes : List ℕ) → AllZip IsTableOf ds (map table_of axes)
    → length sizes ≡ length axes → ((k : ℕ) → k < length axes → get_or sizes k 0 ≡ (table_at axes k).grid_size) → sizes ≡ grid_sizes ds
sizes_are [] [] [] are long each = refl
sizes_are (d ∷ ds) (a ∷ axes) (n ∷ sizes) are long each =
    let here : n ≡ d.grid_size = each 0 (omega arith) ∙ are.0.is_grid_size in
    let rest = sizes_are ds axes sizes are.1 (omega arith) (λ k less. each (suc k) (omega arith)) in
    cc
sizes_are [] (_ ∷ _) sizes are long each = absurd are
sizes_are (_ ∷ _) [] sizes are long each = absurd are
sizes_are _ _ _ are long each = absurd (omega arith)

-- the dimensions are chains
pub chains : (ds : List Dimension) (axes : List PreparedAxis) → AllZip IsTableOf ds (map table_of axes) → AllByRecursion IsChain ds
chains [] [] are = tt
chains (d ∷ ds) (a ∷ axes) are = (are.0.chain, chains ds axes are.1)
chains [] (_ ∷ _) are = absurd are
chains (_ ∷ _) [] are = absurd are

-- ranges end where they fit
ends_fit : (starts sizes : List ℕ) → length starts ≡ length sizes → ((k : ℕ) → k < length starts → get_or starts k 0 + get_or sizes k 0 ≤ greatest)
    → AllFit (ends starts sizes)
ends_fit [] [] long each = tt
ends_fit (s ∷ starts) (n ∷ sizes) long each = (each 0 (omega arith), ends_fit starts sizes (omega arith) (λ k less. each (suc k) (omega arith)))
ends_fit _ _ long each = absurd (omega arith)

-- a table is that of some dimension
some_dimension : (ds : List Dimension) (axes : List PreparedAxis) → AllZip IsTableOf ds (map table_of axes) → (k : ℕ) → k < length axes
    → (d : Dimension) × IsTableOf d (table_at axes k)
some_dimension (d ∷ ds) (a ∷ axes) are zero within = (d, are.0)
some_dimension (d ∷ ds) (a ∷ axes) are (suc k) within = some_dimension ds axes are.1 k (omega arith)
some_dimension [] [] are k within = absurd (omega arith)
some_dimension [] (_ ∷ _) are k within = absurd are
some_dimension (_ ∷ _) [] are k within = absurd are

-- chunks that have ranges have their box
pub are_spans : (ds : List Dimension) (axes : List PreparedAxis) (chunk origin shape : List ℕ) → AllZip IsTableOf ds (map table_of axes)
    → length chunk ≡ length axes → length origin ≡ length axes → length shape ≡ length axes
    → ((k : ℕ) → k < length axes → IsRangeIn (table_at axes k) (get_or chunk k 0) (get_or origin k 0) (get_or shape k 0))
    → Spans ds chunk chunk (record { start = origin; shape = shape })
are_spans ds axes chunk origin shape are chunk_long origin_long shape_long each =
    let starts = in_each StartsAt ds axes chunk origin are chunk_long origin_long (λ k within d is. (each k within d is).start) in
    let sizes = in_each HasEdge ds axes chunk shape are chunk_long shape_long (λ k within d is. (each k within d is).edge) in
    let fits = ends_fit origin shape (omega arith)
    (λ k within.
    let (d, is) = some_dimension ds axes are k (omega arith) in
    (each k (omega arith) d is).fits) in
    record {
      is_box = record { lengths = omega arith; fits = fits };
      start = starts;
      end = is_end ds chunk origin shape starts sizes;
    }

-- and where one has none, there is no box
pub no_box : (ds : List Dimension) (axes : List PreparedAxis) (chunk : List ℕ) → AllZip IsTableOf ds (map table_of axes)
    → (k : ℕ) → k < length axes → HasNoRangeIn (table_at axes k) (get_or chunk k 0) → HasNoBox ds chunk
no_box ds axes chunk are k within none = no_ranges ds chunk (none_at ds axes chunk are k within none) where
  none_at : (ds : List Dimension) (axes : List PreparedAxis) (chunk : List ℕ) → AllZip IsTableOf ds (map table_of axes)
      → (k : ℕ) → k < length axes → HasNoRangeIn (table_at axes k) (get_or chunk k 0) → (starts sizes : List ℕ) → ¬ AreRanges ds chunk starts sizes
  none_at (d ∷ ds) (a ∷ axes) (c ∷ chunk) are zero within none (s ∷ starts) (n ∷ sizes) ranges =
      none d are.0 (s, n) (record { start = ranges.origin.0; edge = ranges.shape.0; fits = ranges.fits.0 })
  none_at (d ∷ ds) (a ∷ axes) (c ∷ chunk) are (suc k) within none (s ∷ starts) (n ∷ sizes) ranges =
      none_at ds axes chunk are.1 k (omega arith) none starts sizes
      (record { origin = ranges.origin.1; shape = ranges.shape.1; fits = ranges.fits.1 })
  none_at [] [] chunk are k within none starts sizes ranges = absurd (omega arith)
  none_at [] (_ ∷ _) chunk are k within none starts sizes ranges = absurd are
  none_at (_ ∷ _) [] chunk are k within none starts sizes ranges = absurd are
  none_at (d ∷ ds) (a ∷ axes) [] are k within none [] sizes ranges = absurd ranges.origin
  none_at (d ∷ ds) (a ∷ axes) [] are k within none (_ ∷ _) sizes ranges = absurd ranges.origin
  none_at (d ∷ ds) (a ∷ axes) (c ∷ chunk) are k within none [] sizes ranges = absurd ranges.origin
  none_at (d ∷ ds) (a ∷ axes) (c ∷ chunk) are k within none (s ∷ starts) [] ranges = absurd ranges.shape
