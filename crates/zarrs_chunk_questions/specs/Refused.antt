-- Why a question has no answer: the first reason that applies.
-- Sources: Zarr V3 core, chunk grids and chunk key encodings; the order is this library's own.
use Rattle.std.specs.Prelude.{◌≡◌, ◌≢◌, ◌⊎◌, ℕ, List, length, string_bytes, codes, unwrap_or, Err, Option, Some, None, Result}
use Rattle.serde_json.specs.Data.{Data}
use Rattle.zarrs_chunk_base.specs.ArraySubset.{Box, IsBox, IsEmptyBox}
use Rattle.zarrs_chunk_base.specs.ArraySubsetError.{IsBoxFault}
use Rattle.zarrs_chunk_base.specs.Dimension.{Dimension, array_sizes}
use Rattle.zarrs_chunk_base.specs.Grid.{Grid}
use Rattle.zarrs_chunk_base.specs.Refusal.{TellsLengths}
use Rattle.zarrs_chunk_base.specs.StoreKey.{EndsInSlash}
use Rattle.zarrs_chunk_base.specs.declared.extension_error.ExtensionError.{ExtensionError}
use Rattle.zarrs_chunk_base.specs.declared.incompatible_dimensionality_error.IncompatibleDimensionalityError.{IncompatibleDimensionalityError}
use Rattle.zarrs_chunk_base.specs.declared.refusal.Refusal.{Refusal}
use Rattle.zarrs_chunk_base.specs.declared.refusal.Refusal.TheVariants.{Refused}
use Rattle.zarrs_chunk_keys.specs.ChunkKey.{Encoding}
use Rattle.zarrs_chunk_keys.specs.KeyKinds.{IsEncodingIn, IsNoEncodingIn}
use Rattle.zarrs_chunks.specs.GridKinds.{GridKind, IsGridIn, IsNoGridIn, rectilinear}
use Rattle.zarrs_chunks.specs.Subsets.{AnswersChunksSubset}
use Rattle.zarrs_chunk_plan.specs.Region.{moved}
use Rattle.zarrs_chunk_tasks.specs.Few.{HaveMany, most_to_count}
use Rattle.zarrs_chunk_tasks.specs.Tasks.{IsTasksFault}
use Rattle.zarrs_chunk_questions.specs.Answers.{AnswersCoverOf}
use Rattle.zarrs_chunk_questions.specs.Question.{Asked, BytesAsked, CopyAsked, Lists, Question, byte_ranges, changed_chunks, counted, decode, encode}
use Rattle.zarrs_chunk_questions.specs.Question.{located, of_array, of_box, of_grid, of_numbers, of_walk, parts, runs, task_counts, tasks}
use Rattle.zarrs_chunk_questions.specs.Tasks.{Copy, HasTasksOf, IsCopyAsked, source_dimensions, target_dimensions}
use Rattle.zarrs_chunk_questions.specs.Trees.{box_of}
use Rattle.zarrs_chunk_questions.specs.declared.call.OfBox.{OfBox}
use Rattle.zarrs_chunk_questions.specs.declared.call.OfBox.TheVariants.{ChunksInArraySubset, ChunksSubset}
use Rattle.zarrs_chunk_questions.specs.declared.call.OfNumbers.{OfNumbers}
use Rattle.zarrs_chunk_questions.specs.declared.call.OfNumbers.TheVariants.{ArrayIndicesInbounds, ChunkIndicesInbounds}
use Rattle.zarrs_chunk_questions.specs.declared.line_fault.LineFault.{LineFault}
use Rattle.zarrs_chunk_questions.specs.declared.line_fault.LineFault.TheVariants.{Extension, Key, Lengths, NotBox, ResizedExtension}
use Rattle.zarrs_chunk_questions.specs.declared.line_fault.LineFault.TheVariants.{TargetExtension, Tasks, TooManyToCount, Unreadable}
use Rattle.zarrs_chunk_questions.specs.declared.unreadable.Unreadable.TheVariants.{NoCall}

-- the fault tells that so many numbers were given, and others expected
abbrev pub IsLengthFault : (given expected : ℕ) → LineFault → Type 0
IsLengthFault given expected (Lengths e) = (given ≢ expected) × TellsLengths given expected e
IsLengthFault _ _ _ = ⊥

-- the fault tells why nothing is made of a tree
abbrev pub IsNotMade : (Data → ExtensionError → Type 0) → Data → LineFault → Type 0
IsNotMade IsRefused tree (Extension error) = IsRefused tree error
IsNotMade _ _ _ = ⊥

-- why a tree gives no grid of an array of a shape
abbrev pub IsNoGrid : Data → List ℕ → LineFault → Type 0
IsNoGrid tree shape = IsNotMade (λ t. IsNoGridIn t shape) tree

-- the same of an encoding
abbrev pub IsNoEncoding : Data → LineFault → Type 0
IsNoEncoding tree = IsNotMade IsNoEncodingIn tree

-- why a start and a shape make no box
abbrev pub IsNoBox : Box → LineFault → Type 0
IsNoBox b (NotBox error) = IsBoxFault b.start b.shape error
IsNoBox _ _ = ⊥

-- a text that is no store key, which is handed back
abbrev pub IsNoKey : List ℕ → LineFault → Type 0
IsNoKey text (Key error) = EndsInSlash text × (string_bytes error.0 ≡ text)
IsNoKey _ _ = ⊥

-- a grid of another kind hasn't the call
abbrev pub IsNotOfKind : (name : List ℕ) → GridKind → LineFault → Type 0
IsNotOfKind name kind (Unreadable (NoCall told)) = (kind ≢ rectilinear) × (string_bytes told ≡ name)
IsNotOfKind _ _ _ = ⊥

-- the call refuses a list of another length, but for the two that answer `false` then
abbrev pub IsNumbersRefusal : OfNumbers → (given expected : ℕ) → LineFault → Type 0
IsNumbersRefusal ChunkIndicesInbounds _ _ fault = ⊥
IsNumbersRefusal ArrayIndicesInbounds _ _ fault = ⊥
IsNumbersRefusal _ given expected fault = IsLengthFault given expected fault

-- the fault is the error that a call may answer
abbrev pub IsErrorOf : {X : Type 0} → (Result (Option X) (Refusal IncompatibleDimensionalityError) → Type 0) → LineFault → Type 0
IsErrorOf MayAnswer (Lengths e) = MayAnswer (Err (Refused e))
IsErrorOf _ _ = ⊥

abbrev pub IsBoxRefusal : OfBox → List Dimension → Box → LineFault → Type 0
IsBoxRefusal ChunksSubset ds chunks = IsErrorOf (AnswersChunksSubset ds chunks)
IsBoxRefusal ChunksInArraySubset ds elements = IsErrorOf (AnswersCoverOf ds elements)

-- there is no encoding; or the index has another number of dimensions
abbrev pub IsLocatedRefusal : Data → (given expected : ℕ) → LineFault → Type 0
IsLocatedRefusal tree given expected fault =
    IsNoEncoding tree fault ⊎ ((encoding : Encoding) × IsEncodingIn tree encoding × IsLengthFault given expected fault)

-- why a box has no parts: it has another number of dimensions. Of an empty box that is said only in a grid without dimensions.
abbrev pub IsPartsRefusal : List Dimension → Box → LineFault → Type 0
IsPartsRefusal ds b fault = ((¬ IsEmptyBox b) ⊎ (length ds ≡ 0)) × IsLengthFault (length b.start) (length ds) fault

-- there is no encoding; or no box; or the box has another number of dimensions
abbrev pub IsSomePartsRefusal : Data → Lists → Grid → LineFault → Type 0
IsSomePartsRefusal tree lists grid fault =
    IsNoEncoding tree fault
    ⊎ ((encoding : Encoding) × IsEncodingIn tree encoding
    × (IsNoBox (box_of lists) fault ⊎ (IsBox (box_of lists) × IsPartsRefusal grid.dimensions (box_of lists) fault)))

-- it is the fault of the target's grid or encoding
abbrev pub IsOfTarget : (LineFault → Type 0) → LineFault → Type 0
IsOfTarget IsFault (TargetExtension error) = IsFault (Extension error)
IsOfTarget _ _ = ⊥

-- the start and the shape that are given make no box
abbrev pub IsNoBoxOf : Option Lists → LineFault → Type 0
IsNoBoxOf (Some lists) fault = IsNoBox (box_of lists) fault
IsNoBoxOf None fault = ⊥

-- Why there is no target, or no region: the target's grid can't be made; its encoding can't; or the start and the shape make no box.
abbrev pub IsNoTarget : (shape : List ℕ) → CopyAsked → LineFault → Type 0
IsNoTarget shape asked fault =
    IsOfTarget (IsNoGrid asked.target.chunk_grid shape) fault
    ⊎ ((kind : GridKind) × (to : Grid) × IsGridIn asked.target.chunk_grid shape kind to
    × (IsOfTarget (IsNoEncoding asked.target.chunk_key_encoding) fault
    ⊎ ((encoding : Encoding) × IsEncodingIn asked.target.chunk_key_encoding encoding × IsNoBoxOf asked.subset fault)))

-- why the copy that is asked for can't be made: the array's encoding can't; or there is no target, or no region
abbrev pub IsNoCopy : (shape : List ℕ) → Data → CopyAsked → LineFault → Type 0
IsNoCopy shape tree asked fault =
    IsNoEncoding tree fault
    ⊎ ((encoding : Encoding) × IsEncodingIn tree encoding × IsNoTarget (unwrap_or asked.target.shape shape) asked fault)

-- it can't be made; or the library refuses it
abbrev pub IsCopyRefusal : (Copy → LineFault → Type 0) → (shape : List ℕ) → Data → CopyAsked → Grid → LineFault → Type 0
IsCopyRefusal IsRefused shape tree asked grid fault =
    IsNoCopy shape tree asked fault ⊎ ((copy : Copy) × IsCopyAsked shape tree asked grid copy × IsRefused copy fault)

-- the copy has no tasks
abbrev pub HasNoTasks : Copy → LineFault → Type 0
HasNoTasks copy (Tasks error) =
    IsTasksFault (array_sizes (source_dimensions copy)) (array_sizes (target_dimensions copy)) copy.region copy.at copy.each error
HasNoTasks _ _ = ⊥

-- they aren't counted: it has none; or there are too many chunks
abbrev pub HasNoCounts : Copy → LineFault → Type 0
HasNoCounts copy fault =
    HasNoTasks copy fault
    ⊎ (HasTasksOf copy × (fault ≡ TooManyToCount)
    × HaveMany most_to_count (source_dimensions copy) (target_dimensions copy) copy.region (moved copy.at copy.region))

-- it is the fault of the grid of the new shape
abbrev pub IsOfResize : (LineFault → Type 0) → LineFault → Type 0
IsOfResize IsFault (ResizedExtension error) = IsFault (Extension error)
IsOfResize _ _ = ⊥

-- the array's own tree gives no grid of the new shape
abbrev pub IsChangedRefusal : Data → (resize : List ℕ) → LineFault → Type 0
IsChangedRefusal tree resize = IsOfResize (IsNoGrid tree resize)

-- Why the grid of an array of this shape has no answer; `own` is the grid's metadata.
abbrev pub IsArrayRefusal : (shape : List ℕ) → Data → Asked → GridKind → Grid → LineFault → Type 0
IsArrayRefusal shape own (of_grid call) kind grid fault = ⊥
IsArrayRefusal shape own (of_numbers call numbers) kind grid fault = IsNumbersRefusal call (length numbers) (length grid.dimensions) fault
IsArrayRefusal shape own (of_box call lists) kind grid fault =
    IsNoBox (box_of lists) fault ⊎ (IsBox (box_of lists) × IsBoxRefusal call grid.dimensions (box_of lists) fault)
IsArrayRefusal shape own (of_walk walk items) kind grid fault = ⊥
IsArrayRefusal shape own (runs dimension) kind grid fault = IsNotOfKind (codes "runs") kind fault
IsArrayRefusal shape own (counted index) kind grid fault =
    IsNotOfKind (codes "chunk_indices_counted") kind fault ⊎ ((kind ≡ rectilinear) × IsLengthFault (length index) (length grid.dimensions) fault)
IsArrayRefusal shape own (located tree index) kind grid fault = IsLocatedRefusal tree (length index) (length grid.dimensions) fault
IsArrayRefusal shape own (parts tree items lists) kind grid fault = IsSomePartsRefusal tree lists grid fault
IsArrayRefusal shape own (tasks tree copy items) kind grid fault = IsCopyRefusal HasNoTasks shape tree copy grid fault
IsArrayRefusal shape own (task_counts tree copy share) kind grid fault = IsCopyRefusal HasNoCounts shape tree copy grid fault
IsArrayRefusal shape own (changed_chunks resize) kind grid fault = IsChangedRefusal own resize fault

-- why nothing is told of a chunk's bytes: the start and the shape make no box; or the box has another number of dimensions than the chunk
abbrev pub IsBytesRefusal : BytesAsked → LineFault → Type 0
IsBytesRefusal asked fault =
    IsNoBox (box_of asked.elements) fault
    ⊎ (IsBox (box_of asked.elements) × IsLengthFault (length asked.elements.0) (length asked.edges) fault)

-- Why a question has no answer.
abbrev pub IsRefusal : Question → LineFault → Type 0
IsRefusal (of_array shape tree asked) fault =
    IsNoGrid tree shape fault ⊎ ((kind : GridKind) × (grid : Grid) × IsGridIn tree shape kind grid × IsArrayRefusal shape tree asked kind grid fault)
IsRefusal (encode tree chunk) fault = IsNoEncoding tree fault
IsRefusal (decode tree key dimensionality) fault =
    IsNoEncoding tree fault ⊎ ((encoding : Encoding) × IsEncodingIn tree encoding × IsNoKey key fault)
IsRefusal (byte_ranges asked) fault = IsBytesRefusal asked fault
