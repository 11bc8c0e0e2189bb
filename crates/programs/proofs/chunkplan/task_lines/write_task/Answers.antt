use Rattle.programs.proofs.chunkplan.Common.{◌≡◌, ◌∙◌, ℕ, Bool, true, false, List, [], ◌++◌, IfOk, Option, Err, Ok, Result, Vec, AllocError, append_assoc, inl, refl, sym}
use Rattle.programs.proofs.chunkplan.Common.{Box, ChunkGrid, ChunkKeyEncoding, IsPlan, Part, Parts, counted, lines_from, begin_of_task, end_of_task}
use Rattle.programs.proofs.chunkplan.Common.{item_text, middle_of_task, option_map, overlap_json, StoredChunks, TaskPlan, sends_nothing, written}
use Rattle.std.specs.declared.alloc.Global.{Global}
use Rattle.zarrs_chunk_plan.specs.declared.stored_array.StoredArray.{StoredArray}
use Rattle.zarrs_chunk_plan.specs.seen.Parts.{IsPlanned}
use Rattle.zarrs_chunk_plan.proofs.Walked.{planned_meet}
use Rattle.zarrs_chunk_tasks.specs.declared.task.Task.{Task}
use Rattle.programs.specs.chunkplan.seen.Resume.{is_left_out, line_unless_stored}
use Rattle.programs.specs.chunkplan.seen.Opened.{PartsToCome, dimensions_in, dimensions_of, key_of}
use Rattle.programs.specs.chunkplan.seen.PlannedTasks.{HasPartsOf}
use Rattle.programs.specs.chunkplan.seen.Steps.{IsMade}
use Rattle.zarrs_chunk_questions.proofs.PartsAhead.{its_parts, its_plan}
use Rattle.programs.proofs.chunkplan.Behind.{Begins, Behind, ends_behind, sent_behind, stops_behind, stops_whole}
use Rattle.programs.proofs.chunkplan.Exits.{handed}
use Rattle.programs.proofs.chunkplan.Pieces.{in_task}
use Rattle.programs.proofs.chunkplan.Steps.{made_text, step_made, text_follows}
use Rattle.programs.proofs.chunkplan.task_lines.write_task.Goals as goal

-- the items of what is read, or of what is written
abbrev items : Bool → List Part → List ℕ
items written = lines_from (λ n. item_text (overlap_json written) (counted n)) 0

-- a text, and behind it the parts of a box of an array
abbrev AreItems : StoredArray ChunkGrid ChunkKeyEncoding → Box → (first : List ℕ) → Bool → List ℕ → Type 0
AreItems array b first written text =
    (parts : List Part) × IsPlan (dimensions_of array) (key_of array) b parts × (text ≡ first ++ items written parts)

-- ---- what a walk over such parts gives

module _ (array : StoredArray ChunkGrid ChunkKeyEncoding) (b : Box) (walk : Parts ChunkGrid ChunkKeyEncoding)
    (planned : IsPlanned dimensions_in array.grid array.encoding b walk) where
  are_items : (before : Result (Vec ℕ Global) AllocError) (first : List ℕ) (written : Bool) → IfOk before (λ text. text.items ≡ first) → (text : List ℕ)
      → (made : List ℕ) × (parts : List Part) × IsMade before made × PartsToCome walk parts × (text ≡ made ++ items written parts)
      → AreItems array b first written text
  are_items before first written is text (made, parts, of, are, both) =
      (parts, its_plan array b walk planned parts are, both ∙ rw (made_text (λ text. text ≡ first) before is made of) refl)

-- ---- the line, as far as it was sent

module _ (source target : StoredArray ChunkGrid ChunkKeyEncoding) (task : Task) (number of : Option ℕ) (stored : Option StoredChunks)
    (comes : (plan : TaskPlan) → IsPlan (dimensions_of target) (key_of target) task.target plan.1.1 → is_left_out stored plan ≡ false) where
  abbrev Reads : List ℕ → Type 0
  Reads = AreItems source task.source (begin_of_task task.source.shape) false

  abbrev Writes : List ℕ → Type 0
  Writes = AreItems target task.target (middle_of_task number of) true

  abbrev IsLine : List ℕ → Type 0
  IsLine text = (plan : TaskPlan) × (plan.0 ≡ task) × HasPartsOf source target plan × (text ≡ line_unless_stored stored number of plan)

  line_of_both : (one other last : List ℕ) → Reads one → Writes other → last ≡ end_of_task → IsLine ((one ++ other) ++ last)
  line_of_both one other last (from, reads, is) (into, writes, also) ends =
      let plan : TaskPlan = (task, (from, into)) in (
        plan,
        refl,
        record { reads = reads; writes = writes },
        rw (is, also, ends) (rw (comes plan writes) (sym (in_task task.source.shape number of plan refl))),
      )

  reads_begin : ((into : List Part) × IsPlan (dimensions_of target) (key_of target) task.target into) → Begins Reads IsLine
  reads_begin (into, writes) text reads =
      let other = middle_of_task number of ++ items true into in
      (other ++ end_of_task, rw (sym (append_assoc text other end_of_task)) (line_of_both text other end_of_task reads (into, writes, refl) refl))

  both_begin : Begins (Behind Reads Writes) IsLine
  both_begin text (one, other, reads, writes, both) = (end_of_task, rw both (line_of_both one other end_of_task reads writes refl))

  is_line : (text : List ℕ) → Behind (Behind Reads Writes) (λ text. text ≡ end_of_task) text → IsLine text
  is_line text (most, last, (one, other, reads, writes, both), ends, whole) = rw (whole, both) (line_of_both one other last reads writes ends)

pub write_items-requires-clause-meet : goal.write_items-requires-clause-meet
write_items-requires-clause-meet g c =
    planned_meet dimensions_in _ _ _ c.in_ok-from.from (rw c.in_ok-from.ensures at c.parts.ensures.planned)

pub write_items-requires-clause-is_box : goal.write_items-requires-clause-is_box
write_items-requires-clause-is_box g c =
    let planned = rw c.in_ok-from.ensures at c.parts.ensures.planned in rw planned.about.same_subset c.is_a_box.ensures

pub write_items-requires-2-clause-meet : goal.write_items-requires-2-clause-meet
write_items-requires-2-clause-meet g c =
    planned_meet dimensions_in _ _ _ c.in_ok-into.into (rw c.in_ok-into.ensures at c.parts-2.ensures.planned)

pub write_items-requires-2-clause-is_box : goal.write_items-requires-2-clause-is_box
write_items-requires-2-clause-is_box g c =
    let planned = rw c.in_ok-into.ensures at c.parts-2.ensures.planned in rw planned.about.same_subset c.is_a_box-2.ensures

pub returns-in_err-from : goal.returns-in_err-from
returns-in_err-from g c = rw (handed _ _ c.from_residual.ensures.1) (refl, inl refl)

pub returns-in_err-into : goal.returns-in_err-into
returns-in_err-into g c = rw (handed _ _ c.from_residual-in_err-into.ensures.1) (refl, inl refl)

pub returns-then-left_out : goal.returns-then-left_out
returns-then-left_out g c =
    let source = c.args.source.now in
    let target = c.args.target.now in
    let task = c.args.task.now in
    let stored = option_map (λ s. s.now) c.args.stored in
    let (from, reads) = its_parts source task.source c.in_ok-from.from (rw c.in_ok-from.ensures at c.parts.ensures.planned) c.is_a_box.ensures in
    let (into, writes) = its_parts target task.target c.in_ok-into.into (rw c.in_ok-into.ensures at c.parts-2.ensures.planned) c.is_a_box-2.ensures in
    let plan : TaskPlan = (task, (from, into)) in
    let is : is_left_out stored plan ≡ true = sym (c.in_ok-left_out.ensures plan writes) ∙ c.if-left_out.true in (
      [],
      (plan, refl, record { reads = reads; writes = writes }, rw is refl),
      sends_nothing (written g.W.Write.contents c.args.sink.now),
      refl,
    )

pub returns-in_err-write_items : goal.returns-in_err-write_items
returns-in_err-write_items g c =
    let source = c.args.source.now in
    let target = c.args.target.now in
    let task = c.args.task.now in
    let read = rw c.in_ok-from.ensures at c.parts.ensures.planned in
    let into = rw c.in_ok-into.ensures at c.parts-2.ensures.planned in
    let stored = option_map (λ s. s.now) c.args.stored in
    let comes : (plan : TaskPlan) → IsPlan (dimensions_of target) (key_of target) task.target plan.1.1 → is_left_out stored plan ≡ false =
    λ plan writes. sym (c.in_ok-left_out.ensures plan writes) ∙ c.if-left_out.false in
    rw (handed _ _ c.from_residual-in_err-write_items.ensures.1)
    (stops_whole _ _
    (reads_begin source target task c.args.number c.args.of stored comes (its_parts target task.target c.in_ok-into.into into c.is_a_box-2.ensures)) _ _ _
    (text_follows _ _ (λ _. ⊥) (are_items source task.source c.in_ok-from.from read c.task_begin-begin.result _ false (rw c.shape.ensures.value at c.task_begin-begin.ensures)) _ _
    (Err c.in_err-write_items.field-0.0) c.in_err-write_items.ensures))

pub returns-in_err-write_items-2 : goal.returns-in_err-write_items-2
returns-in_err-write_items-2 g c =
    let source = c.args.source.now in
    let target = c.args.target.now in
    let task = c.args.task.now in
    let read = rw c.in_ok-from.ensures at c.parts.ensures.planned in
    let into = rw c.in_ok-into.ensures at c.parts-2.ensures.planned in
    let stored = option_map (λ s. s.now) c.args.stored in
    let comes : (plan : TaskPlan) → IsPlan (dimensions_of target) (key_of target) task.target plan.1.1 → is_left_out stored plan ≡ false =
    λ plan writes. sym (c.in_ok-left_out.ensures plan writes) ∙ c.if-left_out.false in
    rw (handed _ _ c.from_residual-in_err-write_items-2.ensures.1)
    (stops_behind (Reads source target task c.args.number c.args.of stored comes) (Writes source target task c.args.number c.args.of stored comes) _ _ _ _
    (text_follows _ _ (λ _. ⊥) (are_items source task.source c.in_ok-from.from read c.task_begin-begin.result _ false (rw c.shape.ensures.value at c.task_begin-begin.ensures)) _ _ (Ok tt)
    c.in_ok-write_items.ensures)
    (reads_begin source target task c.args.number c.args.of stored comes (its_parts target task.target c.in_ok-into.into into c.is_a_box-2.ensures))
    (both_begin source target task c.args.number c.args.of stored comes) _
    (text_follows _ _ (λ _. ⊥) (are_items target task.target c.in_ok-into.into into c.task_middle-middle.result _ true c.task_middle-middle.ensures) _ _
    (Err c.in_err-write_items-2.field-0.0) c.in_err-write_items-2.ensures))

pub returns : goal.returns
returns g c =
    let source = c.args.source.now in
    let target = c.args.target.now in
    let task = c.args.task.now in
    let number = c.args.number in
    let of = c.args.of in
    let read = rw c.in_ok-from.ensures at c.parts.ensures.planned in
    let into = rw c.in_ok-into.ensures at c.parts-2.ensures.planned in
    let stored = option_map (λ s. s.now) c.args.stored in
    let comes : (plan : TaskPlan) → IsPlan (dimensions_of target) (key_of target) task.target plan.1.1 → is_left_out stored plan ≡ false =
    λ plan writes. sym (c.in_ok-left_out.ensures plan writes) ∙ c.if-left_out.false in
    let IsReads = Reads source target task number of stored comes in
    let IsWrites = Writes source target task number of stored comes in
    let IsEnd : List ℕ → Type 0 = λ text. text ≡ end_of_task in
    let first = text_follows _ IsReads (λ _. ⊥) (are_items source task.source c.in_ok-from.from read c.task_begin-begin.result _ false (rw c.shape.ensures.value at c.task_begin-begin.ensures)) _ _ (Ok tt)
    c.in_ok-write_items.ensures in
    let second = text_follows _ IsWrites (λ _. ⊥) (are_items target task.target c.in_ok-into.into into c.task_middle-middle.result _ true c.task_middle-middle.ensures) _ _
    (Ok tt) c.in_ok-write_items-2.ensures in
    ends_behind (Behind IsReads IsWrites) IsEnd _ _ _ _ (sent_behind IsReads IsWrites (λ _. ⊥) _ _ _ first second)
    (both_begin source target task number of stored comes) (is_line source target task number of stored comes) _
    (step_made IsEnd c.task_end.result c.task_end.ensures _ _ _ c.send_text.ensures)
