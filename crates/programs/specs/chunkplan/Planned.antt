-- What the program writes for a document, or why it writes nothing.
use Rattle.std.specs.Prelude.{◌≡◌, ◌≢◌, ◌⊎◌}
use Rattle.programs.specs.chunkplan.Common.{ℕ, Bool, true, false, List, length, Option, Result, Ok, Err, replicate}
use Rattle.programs.specs.chunkplan.Common.{unwrap_or, Box, IsEmptyBox, lasts, Dimension, IsKey, IsGrid, IsGridFault, AreElementsOf, AreReadCounts}
use Rattle.programs.specs.chunkplan.Common.{array_box, ReadCounts, Part, ChunkChange, Share, TaskPlan, made_of, then}
use Rattle.programs.specs.chunkplan.Common.{told, StorageMetadata, array_of, RunFault, ChunksDimensionality}
use Rattle.programs.specs.chunkplan.Common.{KeysOfLongDocument, NotJson, ResizedGrid, SubsetDimensionality, Uncovered}
use Rattle.zarrs_chunk_base.specs.Grid.{Grid}
use Rattle.zarrs_chunk_base.specs.Refusal.{TellsLengths}
use Rattle.zarrs_chunk_keys.specs.ChunkKey.{Encoding}
use Rattle.zarrs_chunks.specs.Subsets.{HasNoHome}
use Rattle.zarrs_chunk_plan.specs.Clip.{IsClipped}
use Rattle.zarrs_chunk_parts.specs.Plan.{IsPlan}
use Rattle.zarrs_chunk_plan.specs.Resize.{IsResizePlan}
use Rattle.programs.specs.chunkplan.CountsLine.{IsCountsLine, IsStagesLine}
use Rattle.programs.specs.chunkplan.Document.{Copying, Document, document_in, RangesWanted, Selection, Task, Wanted, all_elements, copy_to}
use Rattle.programs.specs.chunkplan.Document.{counts_wanted, into_chunks, lines_wanted, of_region, read_of, resize_to}
use Rattle.programs.specs.chunkplan.Keys.{AreKeys, HasKeysBehind, IsKeysFault, IsMissingText, behind_first, closed_lines, first_line}
use Rattle.programs.specs.chunkplan.Line.{read_lines, resize_lines, task_lines}
use Rattle.programs.specs.chunkplan.RunFault.{of_create, of_target}
use Rattle.programs.specs.chunkplan.Stages.{IsFaultOfSome, Stage, Stages, asked_in, number_asked, plans_in, stages_in}

-- an array as it is stored: its grid and its encoding
abbrev pub Array : Type 0
Array = Grid × Encoding

-- the array of a document, or why it can't be made; and a target of a shape
abbrev pub source_in : Document → Result Array RunFault → Type 0
source_in document = told of_create (array_of document.stored document.shape)

abbrev pub target_in : StorageMetadata → (shape : List ℕ) → Result Array RunFault → Type 0
target_in stored shape = told of_target (array_of stored shape)

-- ---- a read

-- the plan of reading a box of elements, which has as many dimensions as the grid
pub record IsReadPlan (ds : List Dimension) (IsKeyOf : List ℕ → List ℕ → Type 0) (subset : Box) (parts : List Part) : Type 0 where
  pub lengths : length subset.start ≡ length ds
  pub plan : IsPlan ds IsKeyOf subset parts

-- The fault says why there is no plan of reading the box. The box has another number of dimensions. Or it isn't clipped, and its first or its last
-- element lies in no chunk.
abbrev pub IsReadFault : (clip : Bool) → List Dimension → Box → RunFault → Type 0
IsReadFault clip ds subset (SubsetDimensionality e) = (length subset.start ≢ length ds) × TellsLengths (length subset.start) (length ds) e
IsReadFault clip ds subset Uncovered =
    (clip ≡ false) × (length subset.start ≡ length ds) × (¬ IsEmptyBox subset)
    × (HasNoHome ds subset.start ⊎ HasNoHome ds (lasts subset.start subset.shape))
IsReadFault clip ds subset _ = ⊥

-- the box that is read for a box: it itself, or what it has of the array, where it is clipped
abbrev pub IsAsked : (clip : Bool) → List Dimension → Box → Box → Type 0
IsAsked false ds b asked = asked ≡ b
IsAsked true ds b asked = IsClipped ds b asked

-- what is written of the plan of a read: the lines of a share, or the line of its counts
abbrev pub IsReadText : Wanted → Option RangesWanted → Box → List Part → List ℕ → Type 0
IsReadText (lines_wanted share) ranges asked parts text = text ≡ read_lines ranges share parts
IsReadText counts_wanted ranges asked parts text = (counts : ReadCounts) × AreReadCounts asked parts counts × IsCountsLine counts text

-- so of a box as it is, or why there is no plan of it; and of one that may be clipped
abbrev pub asked_text : Wanted → Option RangesWanted → Array → Box → Result (List ℕ) RunFault → Type 0
asked_text wanted ranges array asked (Ok text) = (parts : List Part) × IsReadPlan array.0.dimensions (IsKey array.1) asked parts
    × IsReadText wanted ranges asked parts text
asked_text wanted ranges array asked (Err fault) = IsReadFault false array.0.dimensions asked fault

abbrev pub read_text : Wanted → (clip : Bool) → Option RangesWanted → Array → Box → Result (List ℕ) RunFault → Type 0
read_text wanted clip ranges array subset (Ok text) =
    (asked : Box) × IsAsked clip array.0.dimensions subset asked × asked_text wanted ranges array asked (Ok text)
read_text wanted clip ranges array subset (Err fault) = IsReadFault clip array.0.dimensions subset fault

-- ---- a copy

-- the fault says that the box of chunks has another number of dimensions than the target
abbrev pub IsChunksFault : List Dimension → Box → RunFault → Type 0
IsChunksFault ds chunks (ChunksDimensionality e) = (length chunks.start ≢ length ds) × TellsLengths (length chunks.start) (length ds) e
IsChunksFault ds chunks _ = ⊥

-- The elements that are copied, as a box of the source's array, or the fault of the box of chunks. What goes into chunks of the target are the elements
-- that these chunks hold, since both arrays have one shape then.
abbrev pub elements_in : Selection → (source target : List Dimension) → Result Box RunFault → Type 0
elements_in all_elements source target (Ok elements) = elements ≡ array_box source
elements_in all_elements source target (Err fault) = ⊥
elements_in (into_chunks chunks) source target (Ok elements) = AreElementsOf target chunks elements × (length chunks.start ≡ length target)
elements_in (into_chunks chunks) source target (Err fault) = IsChunksFault target chunks fault
elements_in (of_region region) source target (Ok elements) = elements ≡ region.elements
elements_in (of_region region) source target (Err fault) = ⊥

-- The index at which they begin in the target's array. It is their own, but for a region, which begins at 0 along each dimension if no index is given.
abbrev pub begins_at : Selection → (elements : Box) → List ℕ
begins_at (of_region region) elements = unwrap_or region.at (replicate (length elements.start) 0)
begins_at _ elements = elements.start

-- the stages of a copy, or why it has none
abbrev pub copy_stages : Copying → (source target : Array) → Result Stages RunFault → Type 0
copy_stages copying source target =
    then (elements_in copying.selection source.0.dimensions target.0.dimensions)
    (λ elements. stages_in copying.choice source target elements (begins_at copying.selection elements))

-- what is written of the stages: a share of the lines of the stage that is asked for, or the line of the counts of all
abbrev pub stages_text : (asked : Option ℕ) → Wanted → Stages → Result (List ℕ) RunFault → Type 0
stages_text asked (lines_wanted share) stages r =
    then (asked_in asked stages.1) (λ stage. made_of (plans_in stage) (λ plans text. text ≡ task_lines share plans)) r
stages_text asked counts_wanted stages (Ok text) = IsStagesLine stages text
stages_text asked counts_wanted stages (Err fault) = IsFaultOfSome stages.1 fault

-- what is written of a copy
abbrev pub copy_text : Copying → Wanted → (source target : Array) → Result (List ℕ) RunFault → Type 0
copy_text copying wanted source target = then (copy_stages copying source target) (stages_text (number_asked copying.choice) wanted)

-- The store of a stage's target has the keys in some lines. What is written of a share of the stage then, or why it has no tasks, or the fault of the
-- keys.
abbrev pub missing_of : Share → (bytes : List ℕ) → Stage → List TaskPlan → Result (List ℕ) RunFault → Type 0
missing_of share bytes stage plans (Ok text) = (keys : List (List ℕ)) × AreKeys bytes keys × IsMissingText stage keys share plans text
missing_of share bytes stage plans (Err fault) = IsKeysFault stage bytes fault

abbrev pub missing_text : Share → (bytes : List ℕ) → Stage → Result (List ℕ) RunFault → Type 0
missing_text share bytes stage = then (plans_in stage) (missing_of share bytes stage)

-- so of the stage of a copy that is asked for
abbrev pub copy_beside : Copying → Share → (bytes : List ℕ) → (source target : Array) → Result (List ℕ) RunFault → Type 0
copy_beside copying share bytes source target =
    then (copy_stages copying source target) (λ stages.
    then (asked_in (number_asked copying.choice) stages.1) (missing_text share bytes))

-- the shape of the target: the array's own, but for a region
abbrev pub target_shape : Selection → (own : List ℕ) → List ℕ
target_shape (of_region region) own = region.shape
target_shape _ own = own

-- ---- a resize

-- the grid of the new shape, which the array's metadata make, or why they make none
abbrev pub resized_in : StorageMetadata → (shape : List ℕ) → Result Grid RunFault → Type 0
resized_in stored shape (Ok grid) = IsGrid stored.chunk_grid shape grid
resized_in stored shape (Err (ResizedGrid error)) = IsGridFault stored.chunk_grid shape error
resized_in stored shape (Err _) = ⊥

-- what is written of the resize to a grid
abbrev pub IsResizeText : (include_unchanged : Bool) → Array → (after : Grid) → List ℕ → Type 0
IsResizeText include_unchanged array after text = (changes : List ChunkChange)
    × IsResizePlan array.0.dimensions after.dimensions (IsKey array.1) include_unchanged changes × (text ≡ resize_lines changes)

-- ---- a document

-- What a document asks for of its plan, as text, or its first fault, by its task. The faults of the array's own grid and encoding come first, and then
-- the faults of the target.
abbrev pub text_by : Document → (source : Array) → Task → Result (List ℕ) RunFault → Type 0
text_by document source (read_of subset clip ranges) =
    read_text document.wanted clip ranges source (unwrap_or subset (array_box source.0.dimensions))
text_by document source (copy_to stored copying) =
    then (target_in stored (target_shape copying.selection document.shape)) (copy_text copying document.wanted source)
text_by document source (resize_to shape include_unchanged) = made_of (resized_in document.stored shape) (IsResizeText include_unchanged source)

abbrev pub text_of : Document → Result (List ℕ) RunFault → Type 0
text_of document = then (source_in document) (λ source. text_by document source document.task)

-- so before lines of keys: of the lines of a share of such a copy
abbrev pub beside_by : Document → (bytes : List ℕ) → Wanted → Task → (source : Array) → Result (List ℕ) RunFault → Type 0
beside_by document bytes (lines_wanted share) (copy_to stored copying) source =
    then (target_in stored (target_shape copying.selection document.shape)) (copy_beside copying share bytes source)
beside_by document bytes _ _ source = λ _. ⊥

abbrev pub text_beside : Document → (bytes : List ℕ) → Result (List ℕ) RunFault → Type 0
text_beside document bytes = then (source_in document) (beside_by document bytes document.wanted document.task)

-- ---- an input

-- The first fault of an input that is no document, and whose first line has no keys after it. If the input is no JSON, but its first lines are a document
-- with keys after it, the fault is that this isn't one line.
pub data IsWholeFault (input : List ℕ) (fault : RunFault) : Type 0 where
  of_input : document_in input (Err fault) → (fault ≡ NotJson → ¬ HasKeysBehind (closed_lines input)) → IsWholeFault input fault
  several_lines : document_in input (Err NotJson) → HasKeysBehind (closed_lines input) → fault ≡ KeysOfLongDocument → IsWholeFault input fault

-- the document that a whole input is, or that fault
abbrev pub whole_in : (input : List ℕ) → Result Document RunFault → Type 0
whole_in input (Ok document) = document_in input (Ok document)
whole_in input (Err fault) = IsWholeFault input fault

-- the text that it wants, unless `keys` is true in it
abbrev pub text_unless : (keys : Bool) → Document → Result (List ℕ) RunFault → Type 0
text_unless false document text = text_of document text
text_unless true document (Ok text) = ⊥
text_unless true document (Err fault) = fault ≡ KeysOfLongDocument

-- the text for a first line with lines of keys after it
abbrev pub text_of_line : (line bytes : List ℕ) → Result (List ℕ) RunFault → Type 0
text_of_line line bytes = then (document_in line) (λ document. text_beside document bytes)

-- The text that the program writes for an input, or its first fault. The whole input is a document. Or its first line is JSON in which `keys` is true,
-- and keys come after that line.
pub data IsPlanOf (input : List ℕ) (text : Result (List ℕ) RunFault) : Type 0 where
  of_document : (¬ HasKeysBehind (first_line input)) → then (whole_in input) (λ document. text_unless document.keys document) text → IsPlanOf input text
  of_keys : HasKeysBehind (first_line input) → text_of_line (first_line input) (behind_first input) text → IsPlanOf input text
