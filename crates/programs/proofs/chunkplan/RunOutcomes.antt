-- The outcomes of a run, put together from its steps.
use Rattle.programs.proofs.chunkplan.Common.{◌≡◌, ◌≢◌, ◌⊎◌, ◌∙◌, ℕ, Bool, true, false, List, [], ◌++◌, Option, None, Some, Result, Ok, Err, append_assoc, ap}
use Rattle.programs.proofs.chunkplan.Common.{arith, inl, inr, refl, sym, true≢false, ⊎_elim, Data, Box, then, StorageMetadata, Document, Task, Wanted, copying_in}
use Rattle.programs.proofs.chunkplan.Common.{document_in, form_in, rechunking_in, region_in, Copying, Selection, all_elements, copy_to, counts_wanted}
use Rattle.programs.proofs.chunkplan.Common.{into_chunks, lines_wanted, of_region, read_of, resize_to, TaskChoice, behind_first, first_line, of_create}
use Rattle.programs.proofs.chunkplan.Common.{of_document, of_stream, of_target, Output, RunFault, Memory, Read, TooManyForKeys, Write, DocumentFault, StreamFault}
use Rattle.programs.proofs.chunkplan.Common.{Dimension, Share}
use Rattle.zarrs_chunk_plan.specs.declared.copy.region_error.RegionError.{RegionError}
use Rattle.zarrs_chunk_tasks.specs.declared.tasks_error.TasksError.{TasksError}
use Rattle.zarrs_chunk_tasks.specs.declared.tasks_error.TasksError.TheVariants.{Region as OfRegion, TaskChunks as OfTaskChunks}
use Rattle.streams.specs.Streams.{IsReadToEnd, Streams}
use Rattle.programs.specs.chunkplan.Document.{cheapest, given}
use Rattle.programs.specs.chunkplan.Planned.{Array, IsPlanOf, begins_at, beside_by, copy_beside, copy_stages, copy_text, elements_in, missing_of}
use Rattle.programs.specs.chunkplan.Planned.{missing_text, of_document as of_whole, of_input, of_keys, several_lines, source_in, stages_text, target_in}
use Rattle.programs.specs.chunkplan.Planned.{target_shape, text_beside, text_by, text_unless, whole_in}
use Rattle.programs.specs.chunkplan.Run.{FailsAfterDocument, HasBegunPlan, RunLeaves}
use Rattle.programs.specs.chunkplan.RunFault.{of_region as of_region_error, of_tasks}
use Rattle.programs.specs.chunkplan.Stages.{IsFaultOfSome, IsStageFault, Stage, Stages, asked_in, number_asked, plans_in, stages_in}
use Rattle.programs.specs.chunkplan.seen.Steps.{HasBegun, InputStepLeaves}
use Rattle.documents.specs.declared.storage_metadata.CreateFault.{CreateFault}
use Rattle.streams.specs.declared.stream_fault.StreamFault.TheVariants.{Write as WriteFailed}

-- ---- a fault of an input is none of reading or writing

abbrev moves : RunFault → Bool
moves Read = true
moves Write = true
moves _ = false

-- it is none of these
abbrev pub Still : (RunFault → Type 0) → Type 0
Still P = (fault : RunFault) → P fault → moves fault ≡ false

pub none_of_reading : (P : RunFault → Type 0) → Still P → ¬ P Read
none_of_reading P never is = true≢false (never Read is)

pub none_of_writing : (P : RunFault → Type 0) → Still P → ¬ P Write
none_of_writing P never is = true≢false (never Write is)

-- what holds of neither holds of others alone
pub still : (P : RunFault → Type 0) → ¬ P Read → ¬ P Write → Still P
still P no_read no_write fault is = grind arith

-- a call stops for want of memory, or by such a fault
pub still_early : (P : RunFault → Type 0) → Still P → Still (λ fault. (fault ≡ Memory) ⊎ P fault)
still_early P never fault (inl same) = ap moves same
still_early P never fault (inr is) = never fault is

pub no_read_fault : (fault : RunFault) → (fault ≡ Memory) ⊎ (fault ≡ TooManyForKeys) → fault ≢ Read
no_read_fault fault (inl is) same = true≢false (sym (ap moves same) ∙ ap moves is)
no_read_fault fault (inr is) same = true≢false (sym (ap moves same) ∙ ap moves is)

of_document_still : (told : DocumentFault) → moves (of_document told) ≡ false
of_document_still told = grind arith

of_create_still : (told : CreateFault) → moves (of_create told) ≡ false
of_create_still told = grind arith

of_target_still : (told : CreateFault) → moves (of_target told) ≡ false
of_target_still told = grind arith

of_region_still : (told : RegionError) → moves (of_region_error told) ≡ false
of_region_still told = grind arith

of_tasks_still : (told : TasksError) → moves (of_tasks told) ≡ false
of_tasks_still (OfTaskChunks error) = refl
of_tasks_still (OfRegion error) = of_region_still error

then_still : {X Y : Type 0} (first : Result X RunFault → Type 0) (next : X → Result Y RunFault → Type 0) → Still (λ fault. first (Err fault))
    → ((x : X) → Still (λ fault. next x (Err fault))) → Still (λ fault. then first next (Err fault))
then_still first next here there fault (inl is) = here fault is
then_still first next here there fault (inr (x, _, is)) = there x fault is

pub source_still : (document : Document) → Still (λ fault. source_in document (Err fault))
source_still document fault (told, _, same) = ap moves same ∙ of_create_still told

pub target_still : (stored : StorageMetadata) (shape : List ℕ) → Still (λ fault. target_in stored shape (Err fault))
target_still stored shape fault (told, _, same) = ap moves same ∙ of_target_still told

-- ---- of a document

asked_rechunking_still : (d target : Data) (fault : RunFault) → rechunking_in d target (Err fault) → moves fault ≡ false
asked_rechunking_still d target fault is = grind (arith, of_document_still)

asked_region_still : (d target subset : Data) (fault : RunFault) → region_in d target subset (Err fault) → moves fault ≡ false
asked_region_still d target subset fault is = grind (arith, of_document_still)

copying_still : (d : Data) (target : Option Data) (fault : RunFault) → copying_in d target (Err fault) → moves fault ≡ false
copying_still d target fault is = grind (arith, of_document_still, asked_region_still, asked_rechunking_still)

form_still : (d : Data) (fault : RunFault) → form_in d (Err fault) → moves fault ≡ false
form_still d fault is = grind (arith, of_document_still, copying_still)

pub input_still : (input : List ℕ) → Still (λ fault. document_in input (Err fault))
input_still input fault (inl (told, _, same)) = ap moves same ∙ of_document_still told
input_still input fault (inr (d, _, is)) = form_still d fault is

pub whole_still : (input : List ℕ) → Still (λ fault. whole_in input (Err fault))
whole_still input fault (of_input is _) = input_still input fault is
whole_still input fault (several_lines _ _ same) = ap moves same

-- ---- of what it wants

pub stages_still : (choice : TaskChoice) (source target : Array) (region : Box) (at : List ℕ) → Still (λ fault. stages_in choice source target region at (Err fault))
stages_still (given order each) source target region at fault none = absurd none
stages_still (cheapest most read asked) source target region at fault (inl (same, _)) = ap moves same
stages_still (cheapest most read asked) source target region at fault (inr (inl (_, same, _))) = ap moves same
stages_still (cheapest most read asked) source target region at fault (inr (inr (told, _, same))) = ap moves same ∙ of_region_still told

pub stage_still : (stage : Stage) → Still (IsStageFault stage)
stage_still stage fault (told, _, same) = ap moves same ∙ of_tasks_still told

pub fault_of_some_still : (stages : List Stage) → Still (IsFaultOfSome stages)
fault_of_some_still stages fault (stage, _, inl is) = stage_still stage fault is
fault_of_some_still stages fault (stage, _, inr (_, same, _)) = ap moves same

pub asked_still : (asked : Option ℕ) (stages : List Stage) → Still (λ fault. asked_in asked stages (Err fault))
asked_still None stages fault (_, same) = ap moves same
asked_still (Some number) stages fault (_, same) = ap moves same

pub stages_text_still : (asked : Option ℕ) (wanted : Wanted) (stages : Stages) → Still (λ fault. stages_text asked wanted stages (Err fault))
stages_text_still asked (lines_wanted share) stages fault (inl is) = asked_still asked stages.1 fault is
stages_text_still asked (lines_wanted share) stages fault (inr (stage, _, is)) = stage_still stage fault is
stages_text_still asked counts_wanted stages fault is = fault_of_some_still stages.1 fault is

pub elements_still : (selection : Selection) (source target : List Dimension) → Still (λ fault. elements_in selection source target (Err fault))
elements_still all_elements source target = λ fault none. absurd none
elements_still (into_chunks chunks) source target = still _ (λ never. never) (λ never. never)
elements_still (of_region region) source target = λ fault none. absurd none

pub copy_stages_still : (copying : Copying) (source target : Array) → Still (λ fault. copy_stages copying source target (Err fault))
copy_stages_still copying source target =
    then_still (elements_in copying.selection source.0.dimensions target.0.dimensions)
    (λ elements. stages_in copying.choice source target elements (begins_at copying.selection elements))
    (elements_still copying.selection source.0.dimensions target.0.dimensions)
    (λ elements. stages_still copying.choice source target elements (begins_at copying.selection elements))

copy_still : (copying : Copying) (wanted : Wanted) (source target : Array) → Still (λ fault. copy_text copying wanted source target (Err fault))
copy_still copying wanted source target =
    then_still (copy_stages copying source target) (stages_text (number_asked copying.choice) wanted) (copy_stages_still copying source target)
    (stages_text_still (number_asked copying.choice) wanted)

text_still : (document : Document) (source : Array) (task : Task) → Still (λ fault. text_by document source task (Err fault))
text_still document source (read_of subset clip ranges) = still _ (λ never. never) (λ never. never)
text_still document source (copy_to stored copying) =
    then_still (target_in stored (target_shape copying.selection document.shape)) (copy_text copying document.wanted source)
    (target_still stored (target_shape copying.selection document.shape)) (copy_still copying document.wanted source)
text_still document source (resize_to shape include_unchanged) = still _ (λ never. never) (λ never. never)

unless_still : (keys : Bool) (document : Document) → Still (λ fault. text_unless keys document (Err fault))
unless_still false document =
    then_still (source_in document) (λ source. text_by document source document.task) (source_still document)
    (λ source. text_still document source document.task)
unless_still true document = λ fault same. ap moves same

pub missing_still : (share : Share) (bytes : List ℕ) (stage : Stage) → Still (λ fault. missing_text share bytes stage (Err fault))
missing_still share bytes stage =
    then_still (plans_in stage) (missing_of share bytes stage) (stage_still stage) (λ plans. still _ (λ never. never) (λ never. never))

copy_beside_still : (copying : Copying) (share : Share) (bytes : List ℕ) (source target : Array)
    → Still (λ fault. copy_beside copying share bytes source target (Err fault))
copy_beside_still copying share bytes source target =
    then_still (copy_stages copying source target) (λ stages. then (asked_in (number_asked copying.choice) stages.1) (missing_text share bytes))
    (copy_stages_still copying source target)
    (λ stages. then_still (asked_in (number_asked copying.choice) stages.1) (missing_text share bytes)
    (asked_still (number_asked copying.choice) stages.1) (missing_still share bytes))

beside_still : (document : Document) (bytes : List ℕ) (wanted : Wanted) (task : Task) (source : Array)
    → Still (λ fault. beside_by document bytes wanted task source (Err fault))
beside_still document bytes (lines_wanted share) (copy_to stored copying) source =
    then_still (target_in stored (target_shape copying.selection document.shape)) (copy_beside copying share bytes source)
    (target_still stored (target_shape copying.selection document.shape))
    (copy_beside_still copying share bytes source)
beside_still document bytes (lines_wanted share) (read_of subset clip ranges) source = λ fault none. absurd none
beside_still document bytes (lines_wanted share) (resize_to shape include_unchanged) source = λ fault none. absurd none
beside_still document bytes counts_wanted task source = λ fault none. absurd none

pub plan_still : (input : List ℕ) → Still (λ fault. IsPlanOf input (Err fault))
plan_still input fault (of_whole _ is) =
    then_still (whole_in input) (λ document. text_unless document.keys document) (whole_still input) (λ document. unless_still document.keys document) fault is
plan_still input fault (of_keys _ is) =
    then_still (document_in (first_line input)) (λ document. text_beside document (behind_first input)) (input_still (first_line input))
    (λ document. then_still (source_in document) (beside_by document (behind_first input) document.wanted document.task) (source_still document)
    (beside_still document (behind_first input) document.wanted document.task)) fault is

-- ---- sending

module _ (input held : List ℕ) (s : Streams) (before : Output) (known : before.holds ≡ Some held) (none : before.held_back ≡ [])
    (not_failed : before.failed ≡ false) (held_back : List ℕ) where
  abbrev After : Output
  After = record { holds = s.holds; held_back = held_back; failed = s.write_failed }

  begun : HasBegun (λ text. IsPlanOf input (Ok text)) before After → HasBegunPlan input held s
  begun (text, is, rest, sends) =
      let (sent, now, parts) = rw (known, none) at sends in
      (text, sent, rest, is, parts, now)

  pub sending_stops : (fault : RunFault) → InputStepLeaves input (Err fault) s.read_failed s.left before After
      → (fault ≡ Read → FailsAfterDocument input s.left) → RunLeaves input held (Err fault) s
  sending_stops Read leaves read = (leaves.0, (leaves.2 ∙ known, leaves.1 ∙ not_failed), read refl)
  sending_stops Write leaves read = ((leaves.1, leaves.0), begun leaves.2.1, leaves.2.0)
  sending_stops Memory leaves read =
      (leaves.0, leaves.1.0 ∙ not_failed, ⊎_elim (λ unsent. inl (unsent ∙ known)) (λ has. inr (begun has)) leaves.1.1)
  sending_stops _ leaves read = ((leaves.0, leaves.1.2.0), leaves.1.2.1, (leaves.1.1 ∙ known, leaves.1.0 ∙ not_failed))

-- ---- writing what was held back

module _ (input held : List ℕ) (s : Streams) (end : IsReadToEnd s) (before : Bool) (not_failed : before ≡ false) (text sent waiting : List ℕ)
    (is : IsPlanOf input (Ok text)) (parts : text ≡ sent ++ waiting) where
  pub all_written : (s.holds ≡ Some ((held ++ sent) ++ waiting)) → (s.write_failed ≡ before) → RunLeaves input held (Ok tt) s
  all_written ok unfailed =
      (end, text, is, (ok ∙ ap Some (append_assoc held sent waiting ∙ ap (λ xs. held ++ xs) (sym parts)), unfailed ∙ not_failed))

  pub some_written : (fault : StreamFault) → (fault ≡ WriteFailed) × (s.write_failed ≡ true)
      → ((written : List ℕ) × (rest : List ℕ) × (waiting ≡ written ++ rest) × (s.holds ≡ Some ((held ++ sent) ++ written)))
      → RunLeaves input held (Err (of_stream fault)) s
  some_written fault failed (written, rest, both, now) =
      let begun : text ≡ (sent ++ written) ++ rest = parts ∙ ap (λ xs. sent ++ xs) both ∙ sym (append_assoc sent written rest) in
      rw failed.0 (end, (text, sent ++ written, rest, is, begun, now ∙ ap Some (append_assoc held sent written)), failed.1)
