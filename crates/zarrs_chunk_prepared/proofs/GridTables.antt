-- The dimensions of a grid, one after another, and the numbers of each.
use Rattle.std.proofs.Common.{◌≡◌, ◌∙◌, ◌++◌, ℕ, zero, suc, ◌+◌, ◌<◌, ◌≤◌, Bool, List, [], ◌∷◌, add-one, ap, arith, get_or, length, map, refl, subst, sym, take}
use Rattle.std.specs.List.{AllByRecursion, AllZip, flat_map}
use Rattle.std.proofs.lemmas.List.{get_or-map, length-map, take_all}
use Rattle.std.proofs.Math.Seq.{take-suc}
use Rattle.zarrs_chunk_axes.specs.Rectangular.{AreRectangular}
use Rattle.zarrs_chunk_axes.specs.Rectilinear.{AreRectilinear}
use Rattle.zarrs_chunk_base.specs.Dimension.{Dimension, InEach, IsChain, array_sizes, grid_sizes}
use Rattle.zarrs_chunk_base.specs.DimensionEdges.{DimensionEdges, equal, listed}
use Rattle.zarrs_chunk_base.specs.Greatest.{greatest}
use Rattle.zarrs_chunk_base.specs.RunLength.{rectilinear_edges}
use Rattle.zarrs_chunk_base.specs.declared.chunk_edge_lengths.ChunkEdgeLengths.{ChunkEdgeLengths}
use Rattle.zarrs_chunk_base.proofs.InEach.{length_values}
use Rattle.zarrs_chunk_prepared.proofs.Rows.{rows_append}
use Rattle.zarrs_chunk_prepared.specs.Prepared.{AreShortest, IsShortest, IsTableOf, Table, row}
use Rattle.zarrs_chunk_prepared.specs.seen.RunTable.{HaveSum, IsCut}
use Rattle.zarrs_chunks.specs.GridKinds.{is_bounded}
use Rattle.zarrs_chunks.specs.seen.Grids.{chained_in, grid_in, kind_in}
use Rattle.zarrs_chunks.specs.declared.chunk_grid.named.ChunkGrid.{ChunkGrid}
use Rattle.zarrs_chunks.specs.declared.chunk_grid.named.ChunkGrid.TheVariants.{Rectangular, Rectilinear, Regular, RegularBounded}
use Rattle.zarrs_chunks.proofs.SeenGrids.{rectangular_made, rectilinear_made, regular_bounded_made, regular_made}

-- the dimensions of a grid are made of their sizes and edges
pub cut_in : (grid : ChunkGrid)
    → InEach (IsCut (is_bounded (kind_in grid))) (grid_in grid).dimensions (array_sizes (grid_in grid).dimensions) (grid_in grid).edges
cut_in (Regular grid) = regular_made grid
cut_in (RegularBounded grid) = regular_bounded_made grid
cut_in (Rectangular grid) = rectangular_made grid
cut_in (Rectilinear grid) = rectilinear_made grid

-- listed edges of a dimension whose size fits have a sum that fits
abbrev pub HaveSumWithin : ℕ → DimensionEdges → Type 0
HaveSumWithin size edges = size ≤ greatest → HaveSum edges

each_sum : {A : Type 0} (dimension : A → Dimension) (edges : A → DimensionEdges) → ((a : A) → HaveSum (edges a)) → (axes : List A)
    → AllZip HaveSumWithin (array_sizes (map dimension axes)) (map edges axes)
each_sum dimension edges has [] = tt
each_sum dimension edges has (axis ∷ axes) = (λ fits. has axis, each_sum dimension edges has axes)

rectangular_sums : (sizes : List ℕ) (edges : List DimensionEdges) → AreRectangular sizes edges → AllZip HaveSumWithin sizes edges
rectangular_sums [] [] are = tt
rectangular_sums (size ∷ sizes) (equal edge ∷ edges) are = (λ fits. tt, rectangular_sums sizes edges are.1)
rectangular_sums (size ∷ sizes) (listed list ∷ edges) are =
    (λ fits. (are.0.0, let is = are.0.1 in omega arith), rectangular_sums sizes edges are.1)
rectangular_sums [] (_ ∷ _) are = absurd are
rectangular_sums (_ ∷ _) [] are = absurd are

rectilinear_sums : (sizes : List ℕ) (edges : List DimensionEdges) → AreRectilinear sizes edges → AllZip HaveSumWithin sizes edges
rectilinear_sums [] [] are = tt
rectilinear_sums (size ∷ sizes) (equal edge ∷ edges) are = (λ fits. tt, rectilinear_sums sizes edges are.1)
rectilinear_sums (size ∷ sizes) (listed list ∷ edges) are = (λ fits. (are.0.0, are.0.2), rectilinear_sums sizes edges are.1)
rectilinear_sums [] (_ ∷ _) are = absurd are
rectilinear_sums (_ ∷ _) [] are = absurd are

pub sums_in : (grid : ChunkGrid) → AllZip HaveSumWithin (array_sizes (grid_in grid).dimensions) (grid_in grid).edges
sums_in (Regular grid) = each_sum _ _ (λ axis. tt) grid.axes.axes.items
sums_in (RegularBounded grid) = each_sum _ _ (λ axis. tt) grid.axes.axes.items
sums_in (Rectangular grid) = rectangular_sums _ _ grid.accepted
sums_in (Rectilinear grid) = rectilinear_sums _ _ grid.accepted

-- a dimension of some, with its size and its edges
pub record IsAt (bounded : Bool) (ds : List Dimension) (size : ℕ) (count : ℕ) (edges : DimensionEdges) (k : ℕ) : Type 0 where
  pub dimension : Dimension
  pub next : take (suc k) ds ≡ take k ds ++ dimension ∷ []
  pub chain : IsChain dimension
  pub counts : count ≡ dimension.grid_size
  pub cut : IsCut bounded dimension size edges
  pub sum_fits : HaveSumWithin size edges

pub dimension_at : (bounded : Bool) (ds : List Dimension) (sizes : List ℕ) (edges : List DimensionEdges) → AllByRecursion IsChain ds
    → InEach (IsCut bounded) ds sizes edges → AllZip HaveSumWithin sizes edges → (k : ℕ) → k < length edges
    → IsAt bounded ds (get_or sizes k 0) (get_or (grid_sizes ds) k 0) (get_or edges k (equal 0)) k
dimension_at bounded (d ∷ ds) (size ∷ sizes) (e ∷ edges) chains cut sums zero within =
    record { dimension = d; next = refl; chain = chains.0; counts = refl; cut = cut.0; sum_fits = sums.0 }
dimension_at bounded (d ∷ ds) (size ∷ sizes) (e ∷ edges) chains cut sums (suc k) within =
    let at = dimension_at bounded ds sizes edges chains.1 cut.1 sums.1 k (omega arith) in
    record {
      dimension = at.dimension;
      next = ap (λ rest. d ∷ rest) at.next;
      chain = at.chain;
      counts = at.counts;
      cut = at.cut;
      sum_fits = at.sum_fits;
    }
dimension_at bounded ds sizes [] chains cut sums k within = absurd (omega arith)
dimension_at bounded [] [] (_ ∷ _) chains cut sums k within = absurd cut
dimension_at bounded [] (_ ∷ _) (_ ∷ _) chains cut sums k within = absurd cut
dimension_at bounded (_ ∷ _) [] (_ ∷ _) chains cut sums k within = absurd cut

-- the edges of one
edges_are : (grid : ChunkGrid) (lengths : List ChunkEdgeLengths) (k : ℕ) (item : ChunkEdgeLengths)
    → map rectilinear_edges lengths ≡ (grid_in grid).edges → k < length lengths → item ≡ get_or lengths k item
    → get_or (grid_in grid).edges k (equal 0) ≡ rectilinear_edges item
edges_are grid lengths k item told within is =
    ap (λ es. get_or es k (equal 0)) (sym told) ∙ get_or-map rectilinear_edges lengths k item (equal 0) within ∙ ap rectilinear_edges (sym is)

-- the one with these edges
pub told_at : (grid : ChunkGrid) (lengths : List ChunkEdgeLengths) (k : ℕ) (item : ChunkEdgeLengths)
    → map rectilinear_edges lengths ≡ (grid_in grid).edges → k < length lengths → item ≡ get_or lengths k item
    → IsAt (is_bounded (kind_in grid)) (grid_in grid).dimensions (get_or (array_sizes (grid_in grid).dimensions) k 0)
    (get_or (grid_sizes (grid_in grid).dimensions) k 0) (rectilinear_edges item) k
told_at grid lengths k item told within is =
    let ds = (grid_in grid).dimensions in
    let many : length lengths ≡ length (grid_in grid).edges = sym (length-map lengths rectilinear_edges) ∙ ap length told in
    subst (λ e. IsAt (is_bounded (kind_in grid)) ds (get_or (array_sizes ds) k 0) (get_or (grid_sizes ds) k 0) e k)
    (edges_are grid lengths k item told within is)
    (dimension_at (is_bounded (kind_in grid)) ds (array_sizes ds) (grid_in grid).edges (chained_in grid) (cut_in grid) (sums_in grid) k
    (omega (arith, many)))

-- and its edges are the next ones
pub next_edges : (grid : ChunkGrid) (lengths : List ChunkEdgeLengths) (k : ℕ) (item : ChunkEdgeLengths)
    → map rectilinear_edges lengths ≡ (grid_in grid).edges → k < length lengths → item ≡ get_or lengths k item
    → take (suc k) (grid_in grid).edges ≡ take k (grid_in grid).edges ++ rectilinear_edges item ∷ []
next_edges grid lengths k item told within is =
    let many : length lengths ≡ length (grid_in grid).edges = sym (length-map lengths rectilinear_edges) ∙ ap length told in
    take-suc (grid_in grid).edges k (equal 0) (omega (arith, many))
    ∙ ap (λ e. take k (grid_in grid).edges ++ e ∷ []) (edges_are grid lengths k item told within is)

-- there are as many edges as dimensions
pub as_many_edges : (grid : ChunkGrid) (lengths : List ChunkEdgeLengths) → map rectilinear_edges lengths ≡ (grid_in grid).edges
    → length lengths ≡ length (grid_in grid).dimensions
as_many_edges grid lengths told =
    sym (length-map lengths rectilinear_edges) ∙ ap length told
    ∙ length_values (IsCut (is_bounded (kind_in grid))) (grid_in grid).dimensions (array_sizes (grid_in grid).dimensions) (grid_in grid).edges
    (cut_in grid)

-- the numbers of the dimensions so far
abbrev pub AreSoFar : (mark count : ℕ) → List Dimension → List DimensionEdges → ℕ → List ℕ → Type 0
AreSoFar mark count ds edges k numbers =
    (tables : List Table) × AllZip IsTableOf (take k ds) tables × AreShortest (take k ds) (take k edges) tables
    × (numbers ≡ mark ∷ count ∷ flat_map row tables)

-- of one more
both_append : (ds : List Dimension) (tables : List Table) (d : Dimension) (t : Table) → AllZip IsTableOf ds tables → IsTableOf d t
    → AllZip IsTableOf (ds ++ d ∷ []) (tables ++ t ∷ [])
both_append [] [] d t are is = (is, tt)
both_append (e ∷ ds) (u ∷ tables) d t are is = (are.0, both_append ds tables d t are.1 is)
both_append [] (_ ∷ _) d t are is = absurd are
both_append (_ ∷ _) [] d t are is = absurd are

shortest_append : (ds : List Dimension) (edges : List DimensionEdges) (tables : List Table) (d : Dimension) (e : DimensionEdges) (t : Table)
    → AreShortest ds edges tables → IsShortest d e t → AreShortest (ds ++ d ∷ []) (edges ++ e ∷ []) (tables ++ t ∷ [])
shortest_append [] [] [] d e t are is = (is, tt)
shortest_append (_ ∷ ds) (_ ∷ edges) (_ ∷ tables) d e t are is = (are.0, shortest_append ds edges tables d e t are.1 is)
shortest_append _ _ _ d e t are is = absurd are

pub one_table_more : (mark count : ℕ) (ds : List Dimension) (edges : List DimensionEdges) (k : ℕ) (numbers after : List ℕ) (d : Dimension)
    (e : DimensionEdges) → AreSoFar mark count ds edges k numbers → take (suc k) ds ≡ take k ds ++ d ∷ [] → take (suc k) edges ≡ take k edges ++ e ∷ []
    → (t : Table) × IsTableOf d t × IsShortest d e t × (after ≡ numbers ++ row t) → AreSoFar mark count ds edges (k + 1) after
one_table_more mark count ds edges k numbers after d e (tables, are, short, is) next next_edges (t, of, is_short, appended) =
    let more : take (k + 1) ds ≡ take k ds ++ d ∷ [] = ap (λ n. take n ds) (add-one k) ∙ next in
    let more_edges : take (k + 1) edges ≡ take k edges ++ e ∷ [] = ap (λ n. take n edges) (add-one k) ∙ next_edges in (
      tables ++ t ∷ [],
      rw more (both_append (take k ds) tables d t are of),
      rw (more, more_edges) (shortest_append (take k ds) (take k edges) tables d e t short is_short),
      appended ∙ ap (λ ns. ns ++ row t) is ∙ ap (λ ns. mark ∷ count ∷ ns) (sym (rows_append tables t)),
    )

as_many_tables : (ds : List Dimension) (tables : List Table) → AllZip IsTableOf ds tables → length ds ≡ length tables
as_many_tables [] [] are = refl
as_many_tables (d ∷ ds) (t ∷ tables) are = ap suc (as_many_tables ds tables are.1)
as_many_tables [] (_ ∷ _) are = absurd are
as_many_tables (_ ∷ _) [] are = absurd are

-- and of all
pub all_tables : (mark count : ℕ) (ds : List Dimension) (edges : List DimensionEdges) (k : ℕ) (numbers : List ℕ)
    → AreSoFar mark count ds edges k numbers → length ds ≤ k → length edges ≤ k → count ≡ length ds
    → (tables : List Table) × AllZip IsTableOf ds tables × AreShortest ds edges tables × (numbers ≡ mark ∷ length tables ∷ flat_map row tables)
all_tables mark count ds edges k numbers (tables, are, short, is) all all_edges counts =
    let whole : AllZip IsTableOf ds tables = subst (λ some. AllZip IsTableOf some tables) (take_all k ds all) are in
    let long : count ≡ length tables = counts ∙ as_many_tables ds tables whole in (
      tables,
      whole,
      rw (take_all k ds all, take_all k edges all_edges) at short,
      is ∙ ap (λ n. mark ∷ n ∷ flat_map row tables) long,
    )
