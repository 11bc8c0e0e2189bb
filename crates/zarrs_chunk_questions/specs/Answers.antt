-- What the answer of each question is, as a tree.
-- Sources: Zarr V3 core, chunk grids and chunk key encodings; the forms of the answers are this library's own.
use Rattle.std.specs.Prelude.{◌≡◌, ◌≢◌, ◌↔◌, ◌⊎◌, ℕ, Bool, IsTrue, IsSome, List, length, map, codes, Option, Ok, Vec}
use Rattle.std.specs.Int.NonZero.{non_zero_u64_get}
use Rattle.std.specs.List.{slice_get}
use Rattle.std.specs.declared.alloc.Global.{Global}
use Rattle.std.specs.declared.num.NonZeroU64.{NonZeroU64}
use Rattle.serde_json.specs.Data.{Data, Members, boolean, member, no_members, object, string}
use Rattle.zarrs_chunk_base.specs.ArraySubset.{Box, IsBox, IsEmptyBox}
use Rattle.zarrs_chunk_base.specs.Dimension.{Dimension, array_sizes, grid_sizes}
use Rattle.zarrs_chunk_base.specs.Grid.{Grid}
use Rattle.zarrs_chunk_base.specs.Json.{size_tree}
use Rattle.zarrs_chunk_base.specs.Kinds.{IsConfigurationOf, IsMetadata}
use Rattle.zarrs_chunk_base.specs.Metadata.{Extension, extension_tree}
use Rattle.zarrs_chunk_base.specs.Refusal.{AnswersOrMemory}
use Rattle.zarrs_chunk_base.specs.StoreKey.{EndsInSlash}
use Rattle.zarrs_chunk_axes.specs.Counted.{AreCounted, AreSearchedInOrder, HasOneForEach, TellsRuns}
use Rattle.zarrs_chunk_axes.specs.InBounds.{AreInBounds, AreIndicesInBounds}
use Rattle.zarrs_chunk_axes.specs.LookUp.{AnswersChunk, AnswersOrigin, AnswersPlace, AnswersShape, AnswersShapeNumbers}
use Rattle.zarrs_chunk_keys.specs.ChunkKey.{Encoding, IsKey}
use Rattle.zarrs_chunk_keys.specs.Decoded.{IsDecoded}
use Rattle.zarrs_chunk_keys.specs.KeyKinds.{IsEncodingIn}
use Rattle.zarrs_chunks.specs.GridKinds.{GridKind, IsGridIn, grid_kind, rectilinear}
use Rattle.zarrs_chunks.specs.Located.{IsLocated}
use Rattle.zarrs_chunks.specs.Subsets.{AnswersChunksSubset, AnswersCover, AnswersEmptyCover, AnswersSubset, HasNoHome, LookedBox}
use Rattle.zarrs_chunks.specs.declared.location.Located.{Located}
use Rattle.zarrs_chunk_questions.specs.Bytes.{IsBytesAnswer}
use Rattle.zarrs_chunk_questions.specs.Changed.{IsChangedAnswer}
use Rattle.zarrs_chunk_questions.specs.Pages.{IsSomePartsAnswer, walk_tree}
use Rattle.zarrs_chunk_questions.specs.Question.{Asked, Question, byte_ranges, changed_chunks, counted, decode, encode, located, of_array, of_box}
use Rattle.zarrs_chunk_questions.specs.Question.{of_grid, of_numbers, of_walk, parts, runs, task_counts, tasks}
use Rattle.zarrs_chunk_questions.specs.Tasks.{IsSomeTasksAnswer, IsTaskCountsAnswer}
use Rattle.zarrs_chunk_questions.specs.Trees.{Says, box_of, box_tree, numbers_tree, or_null}
use Rattle.zarrs_chunk_questions.specs.declared.call.OfBox.{OfBox}
use Rattle.zarrs_chunk_questions.specs.declared.call.OfBox.TheVariants.{ChunksInArraySubset, ChunksSubset}
use Rattle.zarrs_chunk_questions.specs.declared.call.OfGrid.{OfGrid}
use Rattle.zarrs_chunk_questions.specs.declared.call.OfGrid.TheVariants.{ArrayShape, Configuration, Dimensionality, GridShape, Metadata}
use Rattle.zarrs_chunk_questions.specs.declared.call.OfNumbers.{OfNumbers}
use Rattle.zarrs_chunk_questions.specs.declared.call.OfNumbers.TheVariants.{ArrayIndicesInbounds, ChunkElementIndices, ChunkIndices}
use Rattle.zarrs_chunk_questions.specs.declared.call.OfNumbers.TheVariants.{ChunkIndicesInbounds, ChunkOrigin, ChunkShape, ChunkShapeNumbers, Subset}

-- ---- of a grid alone

abbrev pub IsGridAnswer : OfGrid → GridKind → Grid → Data → Type 0
IsGridAnswer Dimensionality kind grid t = t ≡ size_tree (length grid.dimensions)
IsGridAnswer ArrayShape kind grid t = t ≡ numbers_tree (array_sizes grid.dimensions)
IsGridAnswer GridShape kind grid t = t ≡ numbers_tree (grid_sizes grid.dimensions)
IsGridAnswer Configuration kind grid t =
    (members : Members) × IsConfigurationOf (grid_kind kind) (array_sizes grid.dimensions) grid members × (t ≡ object members)
IsGridAnswer Metadata kind grid t =
    (e : Extension) × IsMetadata (grid_kind kind) (array_sizes grid.dimensions) grid e × (t ≡ extension_tree e)

-- ---- of a list of numbers

abbrev pub items_tree : Vec ℕ Global → Data
items_tree v = numbers_tree v.items

abbrev pub edges_tree : Vec NonZeroU64 Global → Data
edges_tree v = numbers_tree (map non_zero_u64_get v.items)

-- the tree is the truth value of a statement
abbrev pub IsTruthOf : Type 0 → Data → Type 0
IsTruthOf P t = (is : Bool) × (IsTrue is ↔ P) × (t ≡ boolean is)

abbrev pub IsNumbersAnswer : OfNumbers → Grid → List ℕ → Data → Type 0
IsNumbersAnswer ChunkShape grid chunk = Says edges_tree (AnswersShape grid.dimensions chunk)
IsNumbersAnswer ChunkShapeNumbers grid chunk = Says items_tree (AnswersShapeNumbers grid.dimensions chunk)
IsNumbersAnswer ChunkOrigin grid chunk = Says items_tree (AnswersOrigin grid.dimensions chunk)
IsNumbersAnswer ChunkIndices grid index = Says items_tree (AnswersChunk grid.dimensions index)
IsNumbersAnswer ChunkElementIndices grid index = Says items_tree (AnswersPlace grid.dimensions index)
IsNumbersAnswer Subset grid chunk = Says box_tree (AnswersSubset grid.dimensions chunk)
IsNumbersAnswer ChunkIndicesInbounds grid chunk = IsTruthOf (AreInBounds (grid_sizes grid.dimensions) chunk)
IsNumbersAnswer ArrayIndicesInbounds grid index = IsTruthOf (AreIndicesInBounds grid index)

-- ---- of a box

-- the cover of a box, that of an empty one, or why there is none
abbrev pub AnswersCoverOf : List Dimension → Box → LookedBox → Type 0
AnswersCoverOf ds b answer =
    (IsEmptyBox b → length ds ≢ 0 → AnswersEmptyCover ds answer) × ((¬ IsEmptyBox b) ⊎ (length ds ≡ 0) → AnswersCover ds b answer)

abbrev pub IsBoxAnswer : OfBox → List Dimension → Box → Data → Type 0
IsBoxAnswer ChunksSubset ds chunks = Says box_tree (AnswersChunksSubset ds chunks)
IsBoxAnswer ChunksInArraySubset ds elements = Says box_tree (AnswersCoverOf ds elements)

-- ---- of runs

-- how many runs of equal edges a dimension has
abbrev pub IsRunsAnswer : Grid → (dimension : ℕ) → Data → Type 0
IsRunsAnswer grid dimension t = (found : Option ℕ) × TellsRuns (slice_get grid.edges dimension) found × (t ≡ or_null size_tree found)

abbrev pub counted_tree : (answer : Data) (comparisons : ℕ) → Data
counted_tree answer comparisons = object (member (codes "answer") answer (member (codes "comparisons") (size_tree comparisons) no_members))

-- the chunk of an index, and how many comparisons that took
pub record IsCountedAnswer (grid : Grid) (index : List ℕ) (t : Data) : Type 0 where
  pub answer : Option (Vec ℕ Global)
  pub comparisons : ℕ
  pub answers : AnswersChunk grid.dimensions index (Ok answer)
  pub counted : AreCounted grid.edges 0 comparisons
  pub each : IsSome answer → HasOneForEach grid.edges 0 comparisons
  pub searched : AreSearchedInOrder grid.dimensions grid.edges index 0 comparisons
  pub tree : t ≡ counted_tree (or_null items_tree answer) comparisons

-- ---- of an element

abbrev pub located_tree : Located → Data
located_tree at =
    object (member (codes "chunk") (items_tree at.chunk)
    (member (codes "element") (items_tree at.element)
    (member (codes "key") (string at.key) no_members)))

abbrev pub IsLocatedAnswer : Grid → Encoding → List ℕ → Data → Type 0
IsLocatedAnswer grid encoding index =
    Says located_tree
    (AnswersOrMemory (length index) (length grid.dimensions) (IsLocated grid.dimensions (IsKey encoding) index) (HasNoHome grid.dimensions index))

-- ---- of an encoding

-- the key of a chunk
abbrev pub IsKeyAnswer : Encoding → List ℕ → Data → Type 0
IsKeyAnswer encoding chunk t = (key : List ℕ) × IsKey encoding chunk key × (t ≡ string key)

-- the chunk of a key, with so many numbers
abbrev pub IsDecodedAnswer : Encoding → List ℕ → (dimensionality : ℕ) → Data → Type 0
IsDecodedAnswer encoding key dimensionality t =
    (answer : Option (Vec ℕ Global)) × IsDecoded (λ chunk. IsKey encoding chunk key) dimensionality answer × (t ≡ or_null items_tree answer)

-- ---- of a question

-- What the grid of an array of this shape answers; `own` is the grid's metadata.
abbrev pub IsArrayAnswer : (shape : List ℕ) → Data → Asked → GridKind → Grid → Data → Type 0
IsArrayAnswer shape own (of_grid call) kind grid t = IsGridAnswer call kind grid t
IsArrayAnswer shape own (of_numbers call numbers) kind grid t = IsNumbersAnswer call grid numbers t
IsArrayAnswer shape own (of_box call lists) kind grid t = IsBox (box_of lists) × IsBoxAnswer call grid.dimensions (box_of lists) t
IsArrayAnswer shape own (of_walk walk items) kind grid t = t ≡ walk_tree walk grid.dimensions items
IsArrayAnswer shape own (runs dimension) kind grid t = (kind ≡ rectilinear) × IsRunsAnswer grid dimension t
IsArrayAnswer shape own (counted index) kind grid t = (kind ≡ rectilinear) × IsCountedAnswer grid index t
IsArrayAnswer shape own (located tree index) kind grid t =
    (encoding : Encoding) × IsEncodingIn tree encoding × IsLocatedAnswer grid encoding index t
IsArrayAnswer shape own (parts tree items lists) kind grid t = IsSomePartsAnswer tree items lists grid t
IsArrayAnswer shape own (tasks tree copy items) kind grid t = IsSomeTasksAnswer shape tree copy items grid t
IsArrayAnswer shape own (task_counts tree copy share) kind grid t = IsTaskCountsAnswer shape tree copy share grid t
IsArrayAnswer shape own (changed_chunks resize) kind grid t = IsChangedAnswer own resize grid t

-- The answer of a question.
abbrev pub IsAnswer : Question → Data → Type 0
IsAnswer (of_array shape tree asked) t =
    (kind : GridKind) × (grid : Grid) × IsGridIn tree shape kind grid × IsArrayAnswer shape tree asked kind grid t
IsAnswer (encode tree chunk) t = (encoding : Encoding) × IsEncodingIn tree encoding × IsKeyAnswer encoding chunk t
IsAnswer (decode tree key dimensionality) t =
    (encoding : Encoding) × IsEncodingIn tree encoding × (¬ EndsInSlash key) × IsDecodedAnswer encoding key dimensionality t
IsAnswer (byte_ranges asked) t = IsBytesAnswer asked t
