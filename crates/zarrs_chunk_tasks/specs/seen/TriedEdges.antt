-- The edges that are tried along each dimension.
use Rattle.std.specs.Prelude.{◌≡◌, ℕ, ◌+◌, ◌<◌, ◌≤◌, ◌⊎◌, List, [], ◌∷◌, Vec, length, map, min}
use Rattle.std.specs.Int.NonZero.{non_zero_u64_get}
use Rattle.std.specs.List.{AllByRecursion, Contains}
use Rattle.std.specs.declared.alloc.Global.{Global}
use Rattle.std.specs.declared.num.NonZeroU64.{NonZeroU64}
use Rattle.zarrs_chunk_base.specs.ArraySubset.{Box, IsBox}
use Rattle.zarrs_chunk_base.specs.Dimension.{Dimension}
use Rattle.zarrs_chunk_plan.specs.Region.{moved}
use Rattle.zarrs_chunk_tasks.specs.Edges.{AreLongest, IsTriedEdge, most_pieces, rounded_up}
use Rattle.zarrs_chunk_tasks.specs.declared.edges.Units.{Units}

-- edges, as numbers
abbrev pub edges_in : List NonZeroU64 → List ℕ
edges_in = map non_zero_u64_get

-- rows of them, without where they lie in memory
abbrev pub rows_of_edges : List (Vec NonZeroU64 Global) → List (List ℕ)
rows_of_edges = map (λ (row : Vec NonZeroU64 Global). edges_in row.items)

-- the edge is there, and those that were before, and no others, and there is at most one more
pub record HasPut (before : List ℕ) (edge : ℕ) (after : List ℕ) : Type 0 where
  pub kept : (x : ℕ) → Contains before x → Contains after x
  pub put : Contains after edge
  pub only : (x : ℕ) → Contains after x → Contains before x ⊎ (x ≡ edge)
  pub few : length after ≤ length before + 1

-- The edges by one unit are there, and those that were before, and no others. There are no more new ones than pieces of one unit.
pub record HasAllBy (size unit : ℕ) (before after : List ℕ) : Type 0 where
  pub kept : (x : ℕ) → Contains before x → Contains after x
  pub some : 0 < length after
  pub only : (edge : ℕ) → Contains after edge → Contains before edge ⊎ IsTriedEdge size unit edge
  pub few : length after ≤ length before + rounded_up size unit
  pub all : rounded_up size unit ≤ most_pieces → (edge : ℕ) → IsTriedEdge size unit edge → Contains after edge

-- the dimension has elements, and so do the units
pub record IsSome (units : Units) : Type 0 where
  pub size : 0 < units.size
  pub read : 0 < units.read
  pub written : 0 < units.written

-- there are few pieces of either unit
abbrev pub IsFew : Units → Type 0
IsFew units = (rounded_up units.size units.read ≤ most_pieces) × (rounded_up units.size units.written ≤ most_pieces)

-- the edge is tried by one unit or by the other
abbrev pub IsTriedBy : Units → ℕ → Type 0
IsTriedBy units edge = IsTriedEdge units.size units.read edge ⊎ IsTriedEdge units.size units.written edge

-- the edges that are tried along one dimension
pub record IsRow (units : Units) (row : List ℕ) : Type 0 where
  pub some : 0 < length row
  pub only : (edge : ℕ) → Contains row edge → IsTriedBy units edge
  pub few : length row ≤ rounded_up units.size units.read + rounded_up units.size units.written
  pub all : IsFew units → (edge : ℕ) → IsTriedBy units edge → Contains row edge

-- each dimension's size, and the edges of the longest chunks, cut to it
abbrev pub units_of : (sizes read written : List ℕ) → List Units
units_of (n ∷ sizes) (r ∷ read) (w ∷ written) = record { size = n; read = min r n; written = min w n } ∷ units_of sizes read written
units_of _ _ _ = []

-- the units are the ones of a copy
pub record AreUnits (source target : List Dimension) (region : Box) (at : List ℕ) (units : List Units) : Type 0 where
  pub read : List ℕ
  pub is_read : AreLongest source region read
  pub read_long : length read ≡ length region.shape
  pub written : List ℕ
  pub is_written : AreLongest target (moved at region) written
  pub written_long : length written ≡ length region.shape
  pub region_is_box : IsBox region
  pub moved_is_box : IsBox (moved at region)
  pub are : units ≡ units_of region.shape read written
  pub long : length units ≡ length region.shape
  pub some : AllByRecursion IsSome units
