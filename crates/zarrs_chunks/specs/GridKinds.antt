-- The kinds of chunk grids: which configurations each accepts for an array shape, and what grids it makes of them.
-- Sources: Zarr V3 core, regular grid; the extension `zarrs.regular_bounded`; ZEP 3, variable chunks; the `rectilinear`
-- extension of zarr-extensions.
use Rattle.std.specs.Prelude.{◌≡◌, ℕ, Bool, true, false, List, [], ◌∷◌, length, map, codes}
use Rattle.std.specs.List.{AllByRecursion}
use Rattle.serde_json.specs.Data.{Data}
use Rattle.zarrs_chunk_base.specs.DimensionEdges.{DimensionEdges, equal}
use Rattle.zarrs_chunk_base.specs.Grid.{Grid}
use Rattle.zarrs_chunk_base.specs.GridConfigurations.{rectangular_members, rectangular_table, rectangular_value, rectilinear_members}
use Rattle.zarrs_chunk_base.specs.GridConfigurations.{rectilinear_table, rectilinear_value, regular_members, regular_table, regular_value}
use Rattle.zarrs_chunk_base.specs.Kinds.{IsFault, IsMade, IsOf, Kind}
use Rattle.zarrs_chunk_base.specs.Metadata.{Extension, IsMadeOfTree, IsTreeFault}
use Rattle.zarrs_chunk_base.specs.RunLength.{EdgeLengths, IsWrittenLengths, edges_of_lengths}
use Rattle.zarrs_chunk_base.specs.declared.extension_error.ExtensionError.{ExtensionError}
use Rattle.zarrs_chunk_base.specs.declared.plugin_create_error.PluginCreateError.{PluginCreateError}
use Rattle.zarrs_chunk_axes.specs.Bounded.{AreBounded}
use Rattle.zarrs_chunk_axes.specs.EqualEdges.{AreEqualEdges}
use Rattle.zarrs_chunk_axes.specs.EqualOrListed.{AreEqualOrListed}
use Rattle.zarrs_chunk_axes.specs.Rectangular.{AreRectangular}
use Rattle.zarrs_chunk_axes.specs.Rectilinear.{AreRectilinear}

-- the kinds of grid
pub data GridKind : Type 0 where
  regular : GridKind
  regular_bounded : GridKind
  rectangular : GridKind
  rectilinear : GridKind

abbrev pub grid_kinds : List GridKind
grid_kinds = regular ∷ regular_bounded ∷ rectangular ∷ rectilinear ∷ []

-- as many edges as array sizes
abbrev pub AreOfOneLength : List ℕ → List ℕ → Type 0
AreOfOneLength shape edges = length edges ≡ length shape

-- What each is. Nothing is said here of the text of a refusal of `rectangular` and `rectilinear`; the latter writes listed edges in
-- run-length form.
abbrev pub grid_kind : GridKind → Kind (List ℕ) Grid
grid_kind regular = record {
  name = codes "regular";
  Said = List ℕ;
  table = regular_table;
  value = regular_value;
  written = regular_members;
  is_written = λ _. Unit {0};
  accepts = AreOfOneLength;
  makes = λ grid shape edges. AreEqualEdges grid.dimensions shape edges × (grid.edges ≡ map equal edges);
  refuses = λ text. text ≡ codes "regular chunk shape and array shape have inconsistent dimensionality";
}
grid_kind regular_bounded = record {
  name = codes "zarrs.regular_bounded";
  Said = List ℕ;
  table = regular_table;
  value = regular_value;
  written = regular_members;
  is_written = λ _. Unit {0};
  accepts = AreOfOneLength;
  makes = λ grid shape edges. AreBounded grid.dimensions shape edges × (grid.edges ≡ map equal edges);
  refuses = λ text. text ≡ codes "`regular_bounded` chunk shape and array shape have inconsistent dimensionality";
}
grid_kind rectangular = record {
  name = codes "rectangular";
  Said = List DimensionEdges;
  table = rectangular_table;
  value = rectangular_value;
  written = rectangular_members;
  is_written = λ _. Unit {0};
  accepts = AreRectangular;
  makes = λ grid shape edges. AreEqualOrListed grid.dimensions shape edges × (grid.edges ≡ edges);
  refuses = λ _. Unit {0};
}
grid_kind rectilinear = record {
  name = codes "rectilinear";
  Said = List EdgeLengths;
  table = rectilinear_table;
  value = rectilinear_value;
  written = rectilinear_members;
  is_written = AllByRecursion IsWrittenLengths;
  accepts = λ shape lengths. AreRectilinear shape (map edges_of_lengths lengths);
  makes = λ grid shape lengths. AreEqualOrListed grid.dimensions shape (map edges_of_lengths lengths) × (grid.edges ≡ map edges_of_lengths lengths);
  refuses = λ _. Unit {0};
}

-- the kind's chunks of one edge end with the array
abbrev pub is_bounded : GridKind → Bool
is_bounded regular = false
is_bounded regular_bounded = true
is_bounded rectangular = false
is_bounded rectilinear = false

-- the grid that an extension's metadata stands for, of an array shape
abbrev pub IsGrid : Extension → List ℕ → Grid → Type 0
IsGrid = IsMade grid_kind

-- why there is none
abbrev pub IsGridFault : Extension → List ℕ → PluginCreateError → Type 0
IsGridFault = IsFault grid_kind grid_kinds

-- the grid of this kind that a tree is the metadata of, of an array shape
abbrev pub IsGridIn : Data → List ℕ → GridKind → Grid → Type 0
IsGridIn tree shape kind = IsMadeOfTree (λ e. IsOf (grid_kind kind) e shape) tree

-- why a tree is the metadata of none
abbrev pub IsNoGridIn : Data → List ℕ → ExtensionError → Type 0
IsNoGridIn tree shape = IsTreeFault (λ e. IsGridFault e shape) tree
