-- Some items of a walk and of the plan of a read.
-- Sources: Zarr V3 core, chunk grids, chunk key encodings and row-major ("C") order; the pages are this library's own.
use Rattle.std.specs.Prelude.{◌≡◌, ◌⊎◌, ℕ, ◌+◌, ◌-◌, Bool, List, [], ◌∷◌, drop, length, map, min, codes, nat_lt, take, unwrap_or}
use Rattle.std.specs.Prelude.{Option, Some, None}
use Rattle.serde_json.specs.Data.{Data, array, boolean, member, no_members, null, object, string}
use Rattle.serde_json.specs.View.{items_of}
use Rattle.zarrs_chunk_base.specs.ArraySubset.{Box, IsBox, IsEmptyBox, lasts}
use Rattle.zarrs_chunk_base.specs.Dimension.{Dimension}
use Rattle.zarrs_chunk_base.specs.Greatest.{greatest}
use Rattle.zarrs_chunk_base.specs.Grid.{Grid}
use Rattle.zarrs_chunk_keys.specs.ChunkKey.{Encoding, IsKey}
use Rattle.zarrs_chunk_keys.specs.KeyKinds.{IsEncodingIn}
use Rattle.zarrs_chunks.specs.Subsets.{HasNoHome}
use Rattle.zarrs_chunks.specs.Walks.{box_at, boxed, chunks_of}
use Rattle.zarrs_chunk_plan.specs.SomeParts.{AreSomeParts}
use Rattle.zarrs_chunk_parts.specs.declared.part.Part.{Part}
use Rattle.zarrs_chunk_questions.specs.Question.{Items, Lists}
use Rattle.zarrs_chunk_questions.specs.Trees.{box_of, box_tree, numbers_tree}
use Rattle.zarrs_chunk_questions.specs.declared.call.WalkOf.{WalkOf}
use Rattle.zarrs_chunk_questions.specs.declared.call.WalkOf.TheVariants.{Boxes, Chunks, ChunksAndBoxes}

-- ---- the form

-- some items, and whether more follow
abbrev pub page_tree : List Data → Bool → Data
page_tree items more = object (member (codes "items") (array (items_of items)) (member (codes "more") (boolean more) no_members))

-- whether more follow behind `count` items from the number `first` on, of `in_all`
abbrev pub is_more : (first count in_all : ℕ) → Bool
is_more first count in_all = nat_lt (first + count) in_all

-- the number of the first item: that of the beginning, where none is given
abbrev pub first_of : Items → ℕ
first_of items = unwrap_or items.first 0

-- ---- of a walk

-- what the walk gives of a chunk: its numbers, its box, or both
abbrev pub item_tree : WalkOf → List Dimension → List ℕ → Data
item_tree Chunks ds chunk = numbers_tree chunk
item_tree Boxes ds chunk = box_tree (box_at ds chunk)
item_tree ChunksAndBoxes ds chunk = array (items_of (numbers_tree chunk ∷ box_tree (box_at ds chunk) ∷ []))

-- What it gives of chunks. A walk that gives boxes passes over a chunk that has none.
abbrev pub item_trees : WalkOf → List Dimension → List (List ℕ) → List Data
item_trees Chunks ds chunks = map (item_tree Chunks ds) chunks
item_trees Boxes ds chunks = map (item_tree Boxes ds) (boxed ds chunks)
item_trees ChunksAndBoxes ds chunks = map (item_tree ChunksAndBoxes ds) (boxed ds chunks)

-- from its beginning: at most so many items
abbrev pub first_page : (most : ℕ) → List Data → Data
first_page most items = page_tree (take most items) (nat_lt most (length items))

-- how many there are, as far as a number counts them
abbrev pub count_of : {X : Type 0} → List X → ℕ
count_of xs = min (length xs) greatest

-- at most so many of them, from the one with this number on
abbrev pub some_from : {X : Type 0} → (first most : ℕ) → List X → List X
some_from first most xs = take (min (count_of xs - first) most) (drop first xs)

-- from the chunk with this number on: what the walk gives of at most so many chunks
abbrev pub page_from : WalkOf → List Dimension → (first most : ℕ) → Data
page_from walk ds first most =
    let chunks = some_from first most (chunks_of ds) in
    page_tree (item_trees walk ds chunks) (is_more first (length chunks) (count_of (chunks_of ds)))

-- the page of a walk over the chunks that a grid counts, in row-major order
abbrev pub walk_page : WalkOf → List Dimension → (most : ℕ) → (first : Option ℕ) → Data
walk_page walk ds most None = first_page most (item_trees walk ds (chunks_of ds))
walk_page walk ds most (Some first) = page_from walk ds first most

-- the page that is asked for
abbrev pub walk_tree : WalkOf → List Dimension → Items → Data
walk_tree walk ds items = walk_page walk ds items.most items.first

-- ---- of the plan of a read

abbrev pub part_tree : Part → Data
part_tree part =
    object (member (codes "chunk") (numbers_tree part.chunk.items)
    (member (codes "in_chunk") (box_tree part.in_chunk)
    (member (codes "in_selection") (box_tree part.in_selection)
    (member (codes "key") (string part.key) no_members))))

abbrev pub parts_tree : (first in_all : ℕ) → List Part → Data
parts_tree first in_all parts = page_tree (map part_tree parts) (is_more first (length parts) in_all)

-- The box isn't empty, has as many dimensions as the grid, and its first or its last element lies in no chunk.
abbrev pub HasNoPlan : List Dimension → Box → Type 0
HasNoPlan ds b =
    (¬ IsEmptyBox b) × (length b.start ≡ length ds) × (HasNoHome ds b.start ⊎ HasNoHome ds (lasts b.start b.shape))

-- the box has as many dimensions as the grid, or is empty in a grid with dimensions
abbrev pub CanHaveParts : List Dimension → Box → Type 0
CanHaveParts ds b = (¬ IsEmptyBox b) ⊎ (length ds ≡ 0) → length b.start ≡ length ds

-- null, if the box has no plan; or some of its parts, and whether more follow
abbrev pub IsPartsAnswer : List Dimension → (List ℕ → List ℕ → Type 0) → Box → (first most : ℕ) → Data → Type 0
IsPartsAnswer ds HasKey b first most t =
    ((t ≡ null) × HasNoPlan ds b)
    ⊎ (CanHaveParts ds b
    × (in_all : ℕ) × (parts : List Part) × AreSomeParts ds HasKey b first most in_all parts × (t ≡ parts_tree first in_all parts))

abbrev pub IsSomePartsAnswer : Data → Items → Lists → Grid → Data → Type 0
IsSomePartsAnswer tree items lists grid t =
    (encoding : Encoding) × IsEncodingIn tree encoding × IsBox (box_of lists)
    × IsPartsAnswer grid.dimensions (IsKey encoding) (box_of lists) (first_of items) items.most t
