-- How a prepared grid is seen that was read.
use Rattle.std.specs.Prelude.{◌≡◌, ◌⊎◌, ℕ, ◌+◌, ◌<◌, ◌≤◌, List, [], length, map, slice_index_or}
use Rattle.std.specs.List.{AllZip}
use Rattle.zarrs_chunk_axes.specs.LookUp.{HasRange}
use Rattle.zarrs_chunk_base.specs.Dimension.{Dimension, Holds}
use Rattle.zarrs_chunk_base.specs.Grid.{Grid}
use Rattle.zarrs_chunk_prepared.specs.Prepared.{IsTableOf, Table}
use Rattle.zarrs_chunk_prepared.specs.declared.axis.PreparedAxis.{PreparedAxis}
use Rattle.zarrs_chunk_prepared.specs.declared.grid.PreparedGrid.{PreparedGrid}
use Rattle.zarrs_chunk_prepared.specs.seen.Axis.{table_of}

-- the numbers of its dimensions
abbrev pub tables_of : PreparedGrid → List Table
tables_of prepared = map table_of prepared.axes.items

-- how many dimensions it has
abbrev pub width_of : PreparedGrid → ℕ
width_of prepared = length prepared.axes.items

-- they are those of the grid
abbrev pub IsReadOf : Grid → PreparedGrid → Type 0
IsReadOf grid prepared = AllZip IsTableOf grid.dimensions (tables_of prepared)

-- ---- a dimension of some

-- where there is no dimension
abbrev pub no_table : Table
no_table = record { grid_size = 0; last_index = 0; last_chunk = 0; starts = []; chunks = []; edges = [] }

-- the numbers of the dimension with this number
abbrev pub table_at : List PreparedAxis → ℕ → Table
table_at axes k = slice_index_or (map table_of axes) k no_table

-- an index lies in a chunk along it, or in none
abbrev pub Reaches : Table → ℕ → Type 0
Reaches t index = (index ≤ t.last_index) × (0 < length t.starts)

abbrev pub Misses : Table → ℕ → Type 0
Misses t index = (t.last_index < index) ⊎ (length t.starts ≡ 0)

-- of the dimension that the numbers tell, the chunk holds the index, and the place is the index's there
abbrev pub IsChunkIn : Table → (index chunk : ℕ) → Type 0
IsChunkIn t index chunk = (d : Dimension) → IsTableOf d t → Holds d chunk index

abbrev pub IsPlaceIn : Table → (index chunk place : ℕ) → Type 0
IsPlaceIn t index chunk place = (d : Dimension) → IsTableOf d t → d.start chunk + place ≡ index

-- of that dimension, the chunk starts and is as long as a range tells; there is one; there is none
abbrev pub IsRangeIn : Table → (chunk start size : ℕ) → Type 0
IsRangeIn t chunk start size = (d : Dimension) → IsTableOf d t → HasRange d chunk (start, size)

abbrev pub HasSomeRangeIn : Table → (chunk : ℕ) → Type 0
HasSomeRangeIn t chunk = (d : Dimension) → IsTableOf d t → (range : ℕ × ℕ) × HasRange d chunk range

abbrev pub HasNoRangeIn : Table → (chunk : ℕ) → Type 0
HasNoRangeIn t chunk = (d : Dimension) → IsTableOf d t → (range : ℕ × ℕ) → ¬ HasRange d chunk range
