-- A chunk grid as numbers that a caller keeps. The layout is this library's own.
use Rattle.std.specs.Prelude.{◌≡◌, ◌≢◌, ◌⊎◌, ℕ, ◌+◌, ◌-◌, ◌*◌, ◌<◌, ◌≤◌, IsTrue, List, [], ◌∷◌, ◌++◌, length, min, slice_index_or}
use Rattle.std.specs.List.{AllByRecursion, AllZip, flat_map}
use Rattle.std.specs.List.Sorted.{IsNonDecreasing}
use Rattle.zarrs_chunk_axes.specs.LookUp.{HasRange}
use Rattle.zarrs_chunk_base.specs.Dimension.{Dimension, Holds, IsChain}
use Rattle.zarrs_chunk_base.specs.DimensionEdges.{DimensionEdges, equal, listed}
use Rattle.zarrs_chunk_base.specs.Greatest.{greatest}
use Rattle.zarrs_chunk_base.specs.Grid.{Grid}
use Rattle.zarrs_chunk_runs.specs.Forms.{HasRuns}

-- A dimension: how many chunks are counted; the last index that lies in a chunk, and the last number that is one; and runs of chunks of one edge:
-- where the first chunk of each starts, which number it has, and the edge.
pub record Table : Type 0 where
  pub grid_size : ℕ
  pub last_index : ℕ
  pub last_chunk : ℕ
  pub starts : List ℕ
  pub chunks : List ℕ
  pub edges : List ℕ

-- as many runs have a first chunk and an edge as have a start
pub record HasAsMany (t : Table) : Type 0 where
  pub chunks : length t.chunks ≡ length t.starts
  pub edges : length t.edges ≡ length t.starts

-- as it stands among the numbers
abbrev pub row : Table → List ℕ
row t = t.grid_size ∷ t.last_index ∷ t.last_chunk ∷ length t.starts ∷ (t.starts ++ (t.chunks ++ t.edges))

-- the number with this place is the last one up to n
pub record IsLastUpTo (numbers : List ℕ) (n place : ℕ) : Type 0 where
  pub within : place < length numbers
  pub from : slice_index_or numbers place 0 ≤ n
  pub next : (later : ℕ) → place < later → later < length numbers → n < slice_index_or numbers later 0

-- The index lies in a run: in the chunk that is so many after the run's first, at this place in it.
abbrev pub LiesInRun : Dimension → Table → (run index chunks place : ℕ) → Type 0
LiesInRun d t run index chunks place =
    let chunk = slice_index_or t.chunks run 0 + chunks in
    Holds d chunk index × (d.start chunk + place ≡ index)

-- The chunk lies in a run: its start and its end are those of so many edges, where the last index doesn't end it before.
pub record IsOfRun (d : Dimension) (t : Table) (run chunk : ℕ) : Type 0 where
  pub has : IsTrue (d.has_chunk chunk)
  pub start : d.start chunk ≡ slice_index_or t.starts run 0 + (chunk - slice_index_or t.chunks run 0) * slice_index_or t.edges run 0
  pub end : min (d.end chunk) (greatest + 1) ≡ min (d.start chunk + slice_index_or t.edges run 0) (t.last_index + 1)

-- the numbers are those of the dimension
pub record IsTableOf (d : Dimension) (t : Table) : Type 0 where
  pub chain : IsChain d
  pub is_grid_size : t.grid_size ≡ d.grid_size
  pub long : HasAsMany t
  -- the first run begins at 0
  pub first_start : 0 < length t.starts → slice_index_or t.starts 0 0 ≡ 0
  pub first_chunk : 0 < length t.starts → slice_index_or t.chunks 0 0 ≡ 0
  -- the others don't begin before the run that they follow
  pub starts_rise : IsNonDecreasing t.starts
  pub chunks_rise : IsNonDecreasing t.chunks
  -- no edge is 0
  pub some : (run : ℕ) → run < length t.starts → 0 < slice_index_or t.edges run 0
  -- an index up to the last one lies in the run that begins last before it
  pub homes : (index run chunks place : ℕ) → index ≤ t.last_index → IsLastUpTo t.starts index run → place < slice_index_or t.edges run 0
      → slice_index_or t.starts run 0 + (chunks * slice_index_or t.edges run 0 + place) ≡ index → LiesInRun d t run index chunks place
  -- and no other index lies in a chunk
  pub no_home : (index : ℕ) → index ≤ greatest → (t.last_index < index) ⊎ (length t.starts ≡ 0) → (chunk : ℕ) → ¬ Holds d chunk index
  -- a chunk up to the last one lies in the run that begins last before it
  pub ranges : (chunk run : ℕ) → chunk ≤ t.last_chunk → IsLastUpTo t.chunks chunk run → IsOfRun d t run chunk
  -- and no other number is a chunk that ends at the greatest number or before
  pub no_range : (chunk : ℕ) → chunk ≤ greatest → (t.last_chunk < chunk) ⊎ (length t.starts ≡ 0) → (range : ℕ × ℕ) → ¬ HasRange d chunk range

-- the number by which those of a grid are told from others: "zarrgrid" in ASCII
abbrev pub grid_mark : ℕ
grid_mark = 8818455381055531364

-- the numbers are those of the grid
abbrev pub IsPreparedGrid : List ℕ → Grid → Type 0
IsPreparedGrid numbers grid =
    (tables : List Table) × AllZip IsTableOf grid.dimensions tables × (numbers ≡ grid_mark ∷ length tables ∷ flat_map row tables)

-- the numbers are a mark, and tables one after another, whatever these say
abbrev pub AreTables : List ℕ → List Table → Type 0
AreTables numbers tables = AllByRecursion HasAsMany tables × (numbers ≡ grid_mark ∷ length tables ∷ flat_map row tables)

-- ---- the numbers that are written

-- How many runs a dimension has: one where one edge is that of all chunks, or none where there is no chunk; and those of listed edges.
abbrev pub HasRunCount : Dimension → (count : ℕ) → DimensionEdges → Type 0
HasRunCount d count (equal edge) = ((count ≡ 1) × IsTrue (d.has_chunk 0)) ⊎ ((count ≡ 0) × ¬ IsTrue (d.has_chunk 0))
HasRunCount d count (listed edges) = HasRuns edges count

-- It has so many. Each begins later than the one before, and has another edge.
pub record IsShortest (d : Dimension) (edges : DimensionEdges) (t : Table) : Type 0 where
  pub runs : HasRunCount d (length t.starts) edges
  pub later : (run : ℕ) → run + 1 < length t.starts → slice_index_or t.starts run 0 < slice_index_or t.starts (run + 1) 0
  pub differ : (run : ℕ) → run + 1 < length t.starts → slice_index_or t.edges run 0 ≢ slice_index_or t.edges (run + 1) 0

-- so it is in each dimension
abbrev pub AreShortest : List Dimension → List DimensionEdges → List Table → Type 0
AreShortest [] [] [] = Unit {0}
AreShortest (d ∷ ds) (e ∷ edges) (t ∷ tables) = IsShortest d e t × AreShortest ds edges tables
AreShortest _ _ _ = ⊥

-- the numbers are those of the grid, and no more than its runs need
abbrev pub IsWrittenGrid : List ℕ → Grid → Type 0
IsWrittenGrid numbers grid =
    (tables : List Table) × AllZip IsTableOf grid.dimensions tables × AreShortest grid.dimensions grid.edges tables
    × (numbers ≡ grid_mark ∷ length tables ∷ flat_map row tables)
