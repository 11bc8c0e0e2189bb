-- What is known of the dimensions of each kind of grid, and that a grid is made again of its metadata.
use Rattle.std.proofs.Common.{◌≡◌, ◌||◌, ℕ, List, Some, map, true, false, refl, subst, sym, ap, ◌∙◌}
use Rattle.serde_json.specs.Data.{Members}
use Rattle.serde_json.specs.Written.{members_have_float}
use Rattle.zarrs_chunk_base.specs.Dimension.{Dimension, InEach, array_sizes}
use Rattle.zarrs_chunk_base.specs.Grid.{Grid}
use Rattle.zarrs_chunk_base.specs.GridConfigurations.{dimension_edges_tree, lengths_tree}
use Rattle.zarrs_chunk_base.specs.Metadata.{Extension}
use Rattle.zarrs_chunk_base.specs.RunLength.{EdgeLengths, edges_of_lengths}
use Rattle.zarrs_chunk_base.specs.declared.plugin_create_error.PluginCreateError.{PluginCreateError}
use Rattle.zarrs_chunk_base.specs.lemmas.Fitting.{rectangular_fits, rectilinear_fits, regular_fits}
use Rattle.zarrs_chunk_base.proofs.InEach.{numbers_are}
use Rattle.zarrs_chunk_base.proofs.KindsByName as kinds
use Rattle.zarrs_chunk_axes.specs.Bounded.{IsBounded, IsBoundedBy}
use Rattle.zarrs_chunk_axes.specs.EqualEdges.{IsEqualEdges}
use Rattle.zarrs_chunk_axes.specs.Rectilinear.{AreRectilinear}
use Rattle.zarrs_chunk_axes.specs.EqualOrListed.{IsEqualOrListed}
use Rattle.zarrs_chunk_axes.specs.declared.equal_or.EqualOr.{EqualOr}
use Rattle.zarrs_chunk_axes.specs.declared.equal_or.EqualOr.TheVariants.{Equal, Other}
use Rattle.zarrs_chunk_axes.specs.declared.listed_axis.ListedAxis.{ListedAxis}
use Rattle.zarrs_chunk_axes.specs.declared.runs_axis.RunsAxis.{RunsAxis}
use Rattle.zarrs_chunk_base.specs.DimensionEdges.{DimensionEdges, equal, listed}
use Rattle.zarrs_chunk_axes.specs.lemmas.AllFromEdges.{IsFromEdges}
use Rattle.zarrs_chunk_axes.specs.seen.AxisGrid.{from_edges, made_of}
use Rattle.zarrs_chunk_axes.specs.seen.BoundedAxis.{bounded_is_made}
use Rattle.zarrs_chunk_axes.specs.seen.DimensionFrom.{dimensions_from}
use Rattle.zarrs_chunk_axes.specs.seen.EqualAxis.{equal_is_made}
use Rattle.zarrs_chunk_axes.specs.seen.EqualOr.{equal_or, equal_or_edges, equal_or_is_made}
use Rattle.zarrs_chunk_axes.specs.seen.ListedAxis.{edges_in, listed_is_made, listed_of}
use Rattle.zarrs_chunk_axes.specs.seen.RunsAxis.{run_edges_in, runs_dimension, runs_is_made}
use Rattle.zarrs_chunks.specs.GridKinds.{GridKind, IsGridFault, grid_kind, grid_kinds, is_bounded, rectangular, rectilinear, regular, regular_bounded}
use Rattle.zarrs_chunks.specs.seen.Grids.{HasMembers, HasMetadata, IsMadeBy, Say, grid_in, kind_in, sizes_in, rectangular_of, rectilinear_of}
use Rattle.zarrs_chunks.specs.seen.Grids.{regular_bounded_of, regular_of}
use Rattle.zarrs_chunks.specs.declared.chunk_grid.named.ChunkGrid.{ChunkGrid}
use Rattle.zarrs_chunks.specs.declared.chunk_grid.named.ChunkGrid.TheVariants.{Rectangular, Rectilinear, Regular, RegularBounded}
use Rattle.zarrs_chunks.specs.declared.chunk_grid.rectangular.RectangularChunkGrid.{RectangularChunkGrid}
use Rattle.zarrs_chunks.specs.declared.chunk_grid.rectilinear.RectilinearChunkGrid.{RectilinearChunkGrid}
use Rattle.zarrs_chunks.specs.declared.chunk_grid.regular.RegularChunkGrid.{RegularChunkGrid}
use Rattle.zarrs_chunks.specs.declared.chunk_grid.regular_bounded.RegularBoundedChunkGrid.{RegularBoundedChunkGrid}
use Rattle.zarrs_chunks.proofs.NoFloats.{no_float_in_edges, no_float_in_lengths, no_float_in_list, no_float_in_numbers}
use Rattle.zarrs_chunks.proofs.WrittenLengths.{written_alike}

-- ---- the dimensions are made of the array sizes and the edges

pub regular_made : (grid : RegularChunkGrid)
    → InEach IsEqualOrListed (regular_of grid).dimensions (array_sizes (regular_of grid).dimensions) (regular_of grid).edges
regular_made grid = made_of IsEqualOrListed equal_is_made grid.axes

pub regular_bounded_made : (grid : RegularBoundedChunkGrid)
    → InEach IsBoundedBy (regular_bounded_of grid).dimensions (array_sizes (regular_bounded_of grid).dimensions) (regular_bounded_of grid).edges
regular_bounded_made grid = made_of IsBoundedBy bounded_is_made grid.axes

pub rectangular_made : (grid : RectangularChunkGrid)
    → InEach IsEqualOrListed (rectangular_of grid).dimensions (array_sizes (rectangular_of grid).dimensions) (rectangular_of grid).edges
rectangular_made grid = made_of IsEqualOrListed (equal_or_is_made listed_of (λ axis. listed (edges_in axis)) listed_is_made) grid.axes

pub rectilinear_made : (grid : RectilinearChunkGrid)
    → InEach IsEqualOrListed (rectilinear_of grid).dimensions (array_sizes (rectilinear_of grid).dimensions) (rectilinear_of grid).edges
rectilinear_made grid = made_of IsEqualOrListed (equal_or_is_made runs_dimension (λ axis. listed (run_edges_in axis)) runs_is_made) grid.axes

-- ---- and determined by them

listed_from_edges : (axis : EqualOr ListedAxis) → IsFromEdges (equal_or listed_of) (equal_or_edges (λ a. listed (edges_in a))) false axis
listed_from_edges (Equal axis) = refl
listed_from_edges (Other axis) = refl

runs_from_edges : (axis : EqualOr RunsAxis) → IsFromEdges (equal_or runs_dimension) (equal_or_edges (λ a. listed (run_edges_in a))) false axis
runs_from_edges (Equal axis) = refl
runs_from_edges (Other axis) = refl

dimensions_are : (grid : ChunkGrid)
    → (grid_in grid).dimensions ≡ dimensions_from (is_bounded (kind_in grid)) (array_sizes (grid_in grid).dimensions) (grid_in grid).edges
dimensions_are (Regular grid) = from_edges false (λ axis. refl) grid.axes
dimensions_are (RegularBounded grid) = from_edges true (λ axis. refl) grid.axes
dimensions_are (Rectangular grid) = from_edges false listed_from_edges grid.axes
dimensions_are (Rectilinear grid) = from_edges false runs_from_edges grid.axes

pub same_dimensions : (grid other : ChunkGrid) → is_bounded (kind_in grid) ≡ is_bounded (kind_in other)
    → array_sizes (grid_in grid).dimensions ≡ array_sizes (grid_in other).dimensions → (grid_in grid).edges ≡ (grid_in other).edges
    → (grid_in grid).dimensions ≡ (grid_in other).dimensions
same_dimensions grid other bounded sizes edges =
    let one = dimensions_are grid in
    let another = dimensions_are other in
    cc

-- ---- made again

-- each kind is found by its name
are_found : kinds.AreFound grid_kind grid_kinds
are_found regular = refl
are_found regular_bounded = refl
are_found rectangular = refl
are_found rectilinear = refl

fits : (kind : GridKind) → kinds.Fits (grid_kind kind)
fits regular = regular_fits
fits regular_bounded = regular_fits
fits rectangular = rectangular_fits
fits rectilinear = rectilinear_fits

-- what two grids are made of tells their edges
same_edges : (kind : GridKind) (given : List ℕ) (grid again : Grid) (x : (grid_kind kind).Said) → (grid_kind kind).makes grid given x
    → (grid_kind kind).makes again given x → again.edges ≡ grid.edges
same_edges regular given grid again x made remade = remade.1 ∙ sym made.1
same_edges regular_bounded given grid again x made remade = remade.1 ∙ sym made.1
same_edges rectangular given grid again x made remade = remade.1 ∙ sym made.1
same_edges rectilinear given grid again x made remade = remade.1 ∙ sym made.1

-- the array shape that something is made of is the grid's
size_of : (d : Dimension) (size : ℕ) (edges : DimensionEdges) → IsEqualOrListed d size edges → d.array_size ≡ size
size_of d size (equal edge) is = is.array_size
size_of d size (listed edges) is = is.array_size

same_sizes : (kind : GridKind) (shape : List ℕ) (grid : Grid) (x : (grid_kind kind).Said) → (grid_kind kind).makes grid shape x
    → shape ≡ array_sizes grid.dimensions
same_sizes regular shape grid x made = numbers_are IsEqualEdges (λ d. d.array_size) (λ d n edge is. is.array_size) grid.dimensions shape x made.0
same_sizes regular_bounded shape grid x made = numbers_are IsBounded (λ d. d.array_size) (λ d n edge is. is.array_size) grid.dimensions shape x made.0
same_sizes rectangular shape grid x made = numbers_are IsEqualOrListed (λ d. d.array_size) size_of grid.dimensions shape x made.0
same_sizes rectilinear shape grid x made =
    numbers_are IsEqualOrListed (λ d. d.array_size) size_of grid.dimensions shape (map edges_of_lengths x) made.0

pub never_refused : (grid : ChunkGrid) (e : Extension) → HasMetadata grid e → (error : PluginCreateError) → ¬ IsGridFault e (sizes_in grid) error
never_refused grid e is error = kinds.never_refused grid_kind grid_kinds are_found fits (kind_in grid) (sizes_in grid) (grid_in grid) e error is

-- the second grid is of the same kind, with the same edges and dimensions
pub record IsAgain (grid again : ChunkGrid) : Type 0 where
  pub kind : kind_in again ≡ kind_in grid
  pub edges : (grid_in again).edges ≡ (grid_in grid).edges
  pub dimensions : (grid_in again).dimensions ≡ (grid_in grid).dimensions

pub is_again : (grid again : ChunkGrid) (e : Extension) → HasMetadata grid e → IsMadeBy e (sizes_in grid) again → IsAgain grid again
is_again grid again e is made =
    let sizes = sizes_in grid in
    let (same, (x, makes, remakes)) =
    kinds.made_again grid_kind grid_kinds are_found (kind_in grid) (kind_in again) sizes (grid_in grid) (grid_in again) e is made in
    let edges = same_edges (kind_in grid) sizes (grid_in grid) (grid_in again) x makes remakes in
    record {
      kind = sym same;
      edges = edges;
      dimensions = same_dimensions again grid (ap is_bounded (sym same)) (sym (same_sizes (kind_in grid) sizes (grid_in again) x remakes)) edges;
    }

-- ---- a `rectilinear` grid, of its configuration

-- what the members say is what the grid was made of
pub said_edges : (grid : RectilinearChunkGrid) (configuration : Members) (said : List EdgeLengths) → HasMembers grid configuration
    → Say configuration said
    → AreRectilinear (array_sizes (rectilinear_of grid).dimensions) (map edges_of_lengths said)
    × ((rectilinear_of grid).edges ≡ map edges_of_lengths said)
said_edges grid configuration said (x, accepted, made, form, written, is) says =
    let both : Some x ≡ Some said = sym is.1 ∙ says.1 in
    let same : x ≡ said = cc in
    let shape = array_sizes (rectilinear_of grid).dimensions in
    (subst (λ y. AreRectilinear shape (map edges_of_lengths y)) same accepted, made.1 ∙ ap (map edges_of_lengths) same)

pub edges_again : (grid again : RectilinearChunkGrid) (configuration : Members) (said : List EdgeLengths) → HasMembers grid configuration
    → Say configuration said → array_sizes (rectilinear_of again).dimensions ≡ array_sizes (rectilinear_of grid).dimensions
    → (rectilinear_of again).edges ≡ map edges_of_lengths said → (rectilinear_of again).dimensions ≡ (rectilinear_of grid).dimensions
edges_again grid again configuration said has says sizes edges =
    same_dimensions (Rectilinear again) (Rectilinear grid) refl sizes (edges ∙ sym (said_edges grid configuration said has says).1)

pub configured_again : (grid again : RectilinearChunkGrid) (configuration others : Members) (said : List EdgeLengths) → HasMembers grid configuration
    → Say configuration said → (rectilinear_of again).edges ≡ map edges_of_lengths said → HasMembers again others → others ≡ configuration
configured_again grid again configuration others said has says edges also =
    (written_alike _ _ (rectilinear_of again) (rectilinear_of grid) others configuration also has).1
    (edges ∙ sym (said_edges grid configuration said has says).1)

-- ---- a configuration that a kind writes has no float

pub no_float_written : (kind : GridKind) (x : (grid_kind kind).Said) → members_have_float ((grid_kind kind).written x) ≡ false
no_float_written regular edges = ap (λ b. b || false) (no_float_in_numbers edges)
no_float_written regular_bounded edges = ap (λ b. b || false) (no_float_in_numbers edges)
no_float_written rectangular edges = ap (λ b. b || false) (no_float_in_list dimension_edges_tree no_float_in_edges edges)
no_float_written rectilinear lengths = ap (λ b. b || false) (no_float_in_list lengths_tree no_float_in_lengths lengths)
