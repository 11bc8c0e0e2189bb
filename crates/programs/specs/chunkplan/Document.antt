-- The program's document: a JSON object with the members `shape`, `chunk_grid` and `chunk_key_encoding`. Besides it has, for a read, `subset` and
-- `clip`, if they are wanted, and `item_size`, if byte ranges are, with `memory_order` and `max_ranges`; for a rechunking, `target`, and `chunks`, if it
-- is wanted; for the copy of a region, `target` and `subset`, and `at` if it is wanted. `task_chunks` and `order` say of which tasks a copy is made, or
-- `max_elements`, `read_elements` and `stage` do. `share` or `counts` says what is wanted of the plan, if not all lines; beside a target, `keys` that
-- keys of its store stand behind the document. For a resize it has `resize`, and `include_unchanged` if it is wanted, and none of these. What else an array's
-- `zarr.json` has may stand in it and in the target.
use Rattle.std.specs.Prelude.{◌≡◌, ◌^◌, ◌≤◌}
use Rattle.programs.specs.chunkplan.Common.{ℕ, Bool, true, false, cond, IsSome, IsTrue, List, Option, Some, None, Result, Ok, Err, bytes_eq, codes}
use Rattle.programs.specs.chunkplan.Common.{map, nat_lt, option_and_then, option_map, Data, as_bool, as_object, as_str, get, Box, IsBox, edge_of, list_of}
use Rattle.programs.specs.chunkplan.Common.{pair_of, size_of, MemoryOrder, Share, order_in, gives, optional, then, told, StorageMetadata, stored_of}
use Rattle.programs.specs.chunkplan.Common.{DocumentFault, UnknownMember, Order, Source, Target, RunFault}
use Rattle.std.specs.Int.NonZero.{non_zero_u64_get}
use Rattle.zarrs_chunk_base.specs.ArraySubsetError.{IsBoxFault}
use Rattle.zarrs_chunk_base.specs.First.{IsFirst}
use Rattle.zarrs_chunk_plan.specs.declared.bytes.ranges.MemoryOrder.TheVariants.{C}
use Rattle.documents.specs.Document.{in_form_or, members_in, object_in, optional_in, shape_in, stored_in}
use Rattle.documents.specs.declared.document_fault.DocumentFault.TheVariants.{WrongValue}
use Rattle.programs.specs.chunkplan.Known.{Agree, Differ, HasOnly, IsFirstUnknown, known_members, zarr_json_members}
use Rattle.programs.specs.chunkplan.MemberRules.{Fit, is_broken, rule_of, rules}
use Rattle.programs.specs.chunkplan.RunFault.{of_document}
use Rattle.programs.specs.declared.chunkplan.ranges.RangesAsked.{RangesAsked}
use Rattle.programs.specs.declared.chunkplan.document.Document.{Document as DocumentValue}
use Rattle.programs.specs.declared.chunkplan.document.Task.{Task as TaskValue}
use Rattle.programs.specs.declared.chunkplan.document.Copying.{Copying as CopyingValue}
use Rattle.programs.specs.declared.chunkplan.document.RegionAsked.{RegionAsked}
use Rattle.programs.specs.declared.chunkplan.document.Selection.{Selection as SelectionValue}
use Rattle.programs.specs.declared.chunkplan.task_choice.TaskChoice.{TaskChoice as ChoiceValue}
use Rattle.programs.specs.declared.chunkplan.task_choice.TaskChoice.TheVariants.{Cheapest as CheapestValue, Given as GivenValue}
use Rattle.programs.specs.declared.chunkplan.document.Wanted.{Wanted as WantedValue}
use Rattle.programs.specs.declared.chunkplan.document.Wanted.TheVariants.{Counts as CountsValue, Lines as LinesValue}
use Rattle.programs.specs.declared.chunkplan.run_fault.RunFault.TheVariants as fault
use Rattle.programs.specs.declared.chunkplan.document.Task.TheVariants as task
use Rattle.programs.specs.declared.chunkplan.document.Selection.TheVariants as selection

-- how byte ranges are wanted in lines: of how many bytes an element is, in which order a chunk's elements are stored, and up to how many are listed
pub record RangesWanted : Type 0 where
  pub item : ℕ
  pub order : MemoryOrder
  pub most : ℕ

-- the region that is copied: a box of elements, which goes to an array of this shape, and perhaps to an index there
pub record RegionWanted : Type 0 where
  pub shape : List ℕ
  pub elements : Box
  pub at : Option (List ℕ)

-- Which tasks a copy is made of. Each takes these numbers of neighbouring chunks of the target, or of the source, and without numbers one chunk. Or they
-- are chosen: the cheapest ones that hold at most `most` elements, if one read is worth `read` elements, and perhaps the tasks of one stage alone.
pub data TaskChoice : Type 0 where
  given : Order → (each : Option (List ℕ)) → TaskChoice
  cheapest : (most read : ℕ) → (stage : Option ℕ) → TaskChoice

-- which elements are copied to another array: all, those that go into the chunks of a box, or a region
pub data Selection : Type 0 where
  all_elements : Selection
  into_chunks : Box → Selection
  of_region : RegionWanted → Selection

-- what is copied, and by which tasks
pub record Copying : Type 0 where
  pub choice : TaskChoice
  pub selection : Selection

-- What is asked for. It is a read of a box of elements or of all, as it is or clipped to the array, and perhaps with byte ranges. Or it is a copy to an
-- array that is stored in some way. Or it is a resize of the array to another shape, with or without the chunks that stay as they are stored.
pub data Task : Type 0 where
  read_of : Option Box → (clip : Bool) → Option RangesWanted → Task
  copy_to : StorageMetadata → Copying → Task
  resize_to : (shape : List ℕ) → (include_unchanged : Bool) → Task

-- what is wanted of the plan: the lines of a share, or its counts
pub data Wanted : Type 0 where
  lines_wanted : Share → Wanted
  counts_wanted : Wanted

-- a document, without where it lies in memory
pub record Document : Type 0 where
  pub shape : List ℕ
  pub wanted : Wanted
  pub keys : Bool
  pub stored : StorageMetadata
  pub task : Task

-- what a value of the program stands for
abbrev pub ranges_asked_of : RangesAsked → RangesWanted
ranges_asked_of asked = record { item = non_zero_u64_get asked.item_size; order = asked.order; most = asked.most }

abbrev pub region_asked_of : RegionAsked → RegionWanted
region_asked_of region = record { shape = region.shape.items; elements = region.elements; at = option_map (λ v. v.items) region.at }

abbrev pub choice_of : ChoiceValue → TaskChoice
choice_of (GivenValue order each) = given order (option_map (λ v. map non_zero_u64_get v.items) each)
choice_of (CheapestValue most read stage) = cheapest most read (option_map non_zero_u64_get stage)

abbrev pub selection_of : SelectionValue → Selection
selection_of selection.All = all_elements
selection_of (selection.Chunks chunks) = into_chunks chunks
selection_of (selection.Region region) = of_region (region_asked_of region)

abbrev pub copying_of : CopyingValue → Copying
copying_of copying = record { choice = choice_of copying.choice; selection = selection_of copying.selection }

abbrev pub task_of : TaskValue → Task
task_of (task.Read subset clip ranges) = read_of subset clip (option_map ranges_asked_of ranges)
task_of (task.Copy target copied) = copy_to (stored_of target) (copying_of copied)
task_of (task.Resize shape include_unchanged) = resize_to shape.items include_unchanged

abbrev pub wanted_of : WantedValue → Wanted
wanted_of (LinesValue share) = lines_wanted share
wanted_of CountsValue = counts_wanted

abbrev pub document_of : DocumentValue → Document
document_of d =
    record { shape = d.shape.items; wanted = wanted_of d.wanted; keys = d.keys; stored = stored_of d.stored; task = task_of d.task }

-- ---- what members say, or the first of their faults

-- a member that is true or false, or false if it is absent
abbrev pub flag_in : (field : List ℕ) → Data → Result Bool DocumentFault → Type 0
flag_in = in_form_or false as_bool

-- the order that a text names: that of the target or of the source
abbrev pub line_order_of : Data → Option Order
line_order_of d = option_and_then (λ text. cond (bytes_eq text (codes "target")) (Some Target)
    (cond (bytes_eq text (codes "source")) (Some Source) None)) (as_str d)

-- The member `order` names the order of the lines; where it is absent, they are in that of the target.
abbrev pub line_order_in : Data → Result Order DocumentFault → Type 0
line_order_in = in_form_or Target line_order_of (codes "order")

-- up to how many ranges a number lists
abbrev pub most_of : Data → Option ℕ
most_of d = option_and_then (λ n. cond (nat_lt (2 ^ 20) n) None (Some n)) (size_of d)

-- How byte ranges are asked for. If `item_size` is there, it is a size from 1 on, and `memory_order` and `max_ranges` say the rest.
abbrev pub ranges_by : Data → Option ℕ → Result (Option RangesWanted) DocumentFault → Type 0
ranges_by d None = gives None
ranges_by d (Some item) =
    then (in_form_or C order_in (codes "memory_order") d) (λ order.
    then (in_form_or 0 most_of (codes "max_ranges") d) (λ most.
    gives (Some (record { item = item; order = order; most = most }))))

abbrev pub ranges_in : Data → Result (Option RangesWanted) DocumentFault → Type 0
ranges_in d = then (optional_in edge_of (codes "item_size") d) (ranges_by d)

-- A list of a share's number, counted from 0, and how many shares there are, which is greater, as of any `Share`.
abbrev pub share_of : Data → Result Share DocumentFault → Type 0
share_of value (Ok share) = pair_of size_of value ≡ Some (share.number, share.of)
share_of value (Err (WrongValue by)) =
    (by.now ≡ codes "share") × ((number of : ℕ) → pair_of size_of value ≡ Some (number, of) → of ≤ number)
share_of value (Err _) = ⊥

abbrev pub whole_plan : Result Share DocumentFault → Type 0
whole_plan (Ok share) = (share.number ≡ 0) × (share.of ≡ 1)
whole_plan (Err fault) = ⊥

-- The member `share` is such a list. If it is absent, the share is the whole plan.
abbrev pub share_in : Data → Result Share DocumentFault → Type 0
share_in d = optional whole_plan share_of (get (codes "share") d)

-- the counts, where `counts` is true, and else the lines of a share
abbrev pub wanted_by : Data → (counts : Bool) → Result Wanted DocumentFault → Type 0
wanted_by d true = gives counts_wanted
wanted_by d false = then (share_in d) (λ share. gives (lines_wanted share))

abbrev pub wanted_in : Data → Result Wanted DocumentFault → Type 0
wanted_in d = then (flag_in (codes "counts") d) (wanted_by d)

-- a list of two lists of sizes, which are the start and the shape of a box
abbrev pub box_of : (name : List ℕ) → Data → Result Box RunFault → Type 0
box_of name value (Ok b) = (pair_of (list_of size_of) value ≡ Some (b.start, b.shape)) × IsBox b
box_of name value (Err (fault.WrongValue by)) = (by.now ≡ name) × (pair_of (list_of size_of) value ≡ None)
box_of name value (Err (fault.Box by error)) = (by.now ≡ name)
    × (start : List ℕ) × (shape : List ℕ) × (pair_of (list_of size_of) value ≡ Some (start, shape)) × IsBoxFault start shape error
box_of name value (Err _) = ⊥

-- a member that is a box, if it is there
abbrev pub box_in : (field : List ℕ) → Data → Result (Option Box) RunFault → Type 0
box_in field d = optional (gives None) (λ m. then (box_of field m) (λ b. gives (Some b))) (get field d)

-- ---- tasks

-- what one read is worth, in elements, if nothing is said: ten megabytes of elements of four bytes
abbrev pub usual_read_elements : ℕ
usual_read_elements = 2500000

-- the cheapest tasks under a bound of elements; without a bound the tasks of some numbers of chunks, in an order
abbrev pub choice_by : Data → (most : Option ℕ) → Result TaskChoice DocumentFault → Type 0
choice_by d (Some most) =
    then (in_form_or usual_read_elements size_of (codes "read_elements") d) (λ read.
    then (optional_in edge_of (codes "stage") d) (λ stage.
    gives (cheapest most read stage)))
choice_by d None =
    then (optional_in (list_of edge_of) (codes "task_chunks") d) (λ each.
    then (line_order_in d) (λ order.
    gives (given order each)))

-- which tasks the copy is made of
abbrev pub choice_in : Data → Result TaskChoice DocumentFault → Type 0
choice_in d = then (optional_in size_of (codes "max_elements") d) (choice_by d)

-- ---- which members there are

-- each member of the object is one of these, or the first that isn't
abbrev pub known_in : (UnknownMember → RunFault) → (known : List (List ℕ)) → Data → Result (Unit {0}) RunFault → Type 0
known_in by known d (Ok _) = HasOnly known d
known_in by known d (Err fault) = (member : UnknownMember) × (fault ≡ by member) × IsFirstUnknown known d member

-- the document breaks no rule, or the first that it breaks
abbrev pub fits_in : Data → Result (Unit {0}) RunFault → Type 0
fits_in d (Ok _) = Fit d
fits_in d (Err (fault.Misfit rule)) = IsFirst (λ rule. IsTrue (is_broken d rule)) rules (rule_of rule)
fits_in d (Err _) = ⊥

abbrev pub checked_in : Data → Result (Unit {0}) RunFault → Type 0
checked_in d =
    then (known_in fault.Unknown known_members d) (λ _.
    then (told of_document (members_in d)) (λ _.
    fits_in d))

-- ---- a target

-- it is an object
abbrev pub object_of : Data → Result (Unit {0}) DocumentFault → Type 0
object_of target (Ok _) = IsSome (as_object target)
object_of target (Err (WrongValue by)) = (by.now ≡ codes "target") × (as_object target ≡ None)
object_of target (Err _) = ⊥

-- it says the same as the array in this member, if both say something; else this is the fault
abbrev pub agree_in : RunFault → (field : List ℕ) → (d target : Data) → Result (Unit {0}) RunFault → Type 0
agree_in other field d target (Ok _) = Agree field d target
agree_in other field d target (Err fault) = (fault ≡ other) × Differ field d target

-- it has no unknown member, and is of the array's data type
abbrev pub of_type : (d target : Data) → Result (Unit {0}) RunFault → Type 0
of_type d target =
    then (known_in fault.UnknownOfTarget zarr_json_members target) (λ _. agree_in fault.OtherDataType (codes "data_type") d target)

-- and of its shape: it is the same array
abbrev pub of_array : (d target : Data) → Result (Unit {0}) RunFault → Type 0
of_array d target =
    then (known_in fault.UnknownOfTarget zarr_json_members target) (λ _.
    then (agree_in fault.OtherShape (codes "shape") d target) (λ _.
    agree_in fault.OtherDataType (codes "data_type") d target))

-- how it is stored
abbrev pub target_stored_in : Data → Result StorageMetadata DocumentFault → Type 0
target_stored_in = stored_in (codes "target.chunk_grid") (codes "target.chunk_key_encoding")

-- ---- what is asked for

-- the elements that go into the chunks of a box, and all without a box
abbrev pub into_box : Option Box → Selection
into_box (Some chunks) = into_chunks chunks
into_box None = all_elements

-- a rechunking to this target
abbrev pub rechunking_in : (d target : Data) → Result Task RunFault → Type 0
rechunking_in d target =
    then (of_array d target) (λ _.
    then (told of_document (target_stored_in target)) (λ stored.
    then (told of_document (choice_in d)) (λ choice.
    then (box_in (codes "chunks") d) (λ chunks.
    gives (copy_to stored (record { choice = choice; selection = into_box chunks }))))))

-- the copy of a region to this target
abbrev pub region_in : (d target subset : Data) → Result Task RunFault → Type 0
region_in d target subset =
    then (of_type d target) (λ _.
    then (told of_document (shape_in (codes "target.shape") target)) (λ shape.
    then (told of_document (target_stored_in target)) (λ stored.
    then (box_of (codes "subset") subset) (λ elements.
    then (told of_document (optional_in (list_of size_of) (codes "at") d)) (λ at.
    then (told of_document (choice_in d)) (λ choice.
    gives (copy_to stored (record {
      choice = choice;
      selection = of_region (record { shape = shape; elements = elements; at = at });
    }))))))))

-- What is copied: without a target, what is read; with one, which is an object, a region, where `subset` is there, or else a rechunking.
abbrev pub copying_in : Data → (target : Option Data) → Result Task RunFault → Type 0
copying_in d None =
    then (box_in (codes "subset") d) (λ subset.
    then (told of_document (flag_in (codes "clip") d)) (λ clip.
    then (told of_document (ranges_in d)) (λ ranges.
    gives (read_of subset clip ranges))))
copying_in d (Some target) =
    then (told of_document (object_of target)) (λ _.
    optional (rechunking_in d target) (region_in d target) (get (codes "subset") d))

-- a resize, where there is `resize`, the array's new shape; and else what is copied
abbrev pub task_by : Data → (target : Option Data) → (resize : Option (List ℕ)) → Result Task RunFault → Type 0
task_by d target (Some shape) = then (told of_document (flag_in (codes "include_unchanged") d)) (λ include_unchanged. gives (resize_to shape include_unchanged))
task_by d target None = copying_in d target

abbrev pub task_in : Data → (target : Option Data) → Result Task RunFault → Type 0
task_in d target = then (told of_document (optional_in (list_of size_of) (codes "resize") d)) (task_by d target)

-- ---- the document

-- the document that an object stands for, or its first fault
abbrev pub form_in : Data → Result Document RunFault → Type 0
form_in d =
    then (checked_in d) (λ _.
    then (told of_document (shape_in (codes "shape") d)) (λ shape.
    then (told of_document (wanted_in d)) (λ wanted.
    then (told of_document (flag_in (codes "keys") d)) (λ keys.
    then (told of_document (stored_in (codes "chunk_grid") (codes "chunk_key_encoding") d)) (λ stored.
    then (task_in d (get (codes "target") d)) (λ task.
    gives (record { shape = shape; wanted = wanted; keys = keys; stored = stored; task = task })))))))

-- the document that an input is the text of, or its first fault
abbrev pub document_in : (input : List ℕ) → Result Document RunFault → Type 0
document_in input = then (told of_document (object_in input)) form_in

-- the lines of a copy are asked for
abbrev pub AsksForLinesOfCopy : Document → Type 0
AsksForLinesOfCopy document = ((share : Share) × (document.wanted ≡ lines_wanted share))
    × ((stored : StorageMetadata) × (copied : Copying) × (document.task ≡ copy_to stored copied))
