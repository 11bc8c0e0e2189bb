use Rattle.programs.proofs.chunkplan.Common.{◌≡◌, ◌<◌, ◌^◌, ◌++◌, ℕ, List, [], Some, Ok, Err, inl, inr, length, refl, Box, moved, Share, StoredChunks, Knows}
use Rattle.programs.proofs.chunkplan.Common.{IsMissingText, Output, TaskPlan, no_line, written, ⊎_elim}
use Rattle.zarrs_chunks.specs.Walks.{chunks_in}
use Rattle.zarrs_chunk_parts.specs.Plan.{Covers}
use Rattle.zarrs_chunk_tasks.specs.declared.walk.Tasks.{Tasks}
use Rattle.zarrs_chunks.specs.declared.chunk_grid.named.ChunkGrid.{ChunkGrid}
use Rattle.programs.specs.chunkplan.Planned.{missing_of, missing_text}
use Rattle.programs.specs.chunkplan.Stages.{AreStagePlans, plans_in}
use Rattle.programs.specs.chunkplan.seen.Resume.{HaveNoted, share_unless_stored}
use Rattle.programs.specs.chunkplan.seen.Opened.{dimensions_in, dimensions_of, key_in, key_of}
use Rattle.programs.specs.chunkplan.seen.PlannedTasks.{HasPlansOf, PlansToCome}
use Rattle.programs.specs.chunkplan.seen.Routes.{stage_of}
use Rattle.programs.specs.declared.chunkplan.route.Stage.{Stage as StageValue}
use Rattle.programs.proofs.chunkplan.Behind.{Begins, Behind, ends_behind, stops_whole}
use Rattle.programs.proofs.chunkplan.Exits.{handed}
use Rattle.programs.proofs.chunkplan.KeySteps.{after_reading, early_beside, noting_stops, read_first}
use Rattle.programs.proofs.chunkplan.ReadsLast.{may_read, not_read}
use Rattle.programs.proofs.chunkplan.RunOutcomes.{missing_still, no_read_fault, none_of_reading, none_of_writing, stage_still, still_early}
use Rattle.programs.proofs.chunkplan.Steps.{text_follows}
use Rattle.programs.proofs.chunkplan.StoredTasks.{none_noted, still_missing}
use Rattle.zarrs_chunk_tasks.proofs.TasksBegun.{first_task, tasks_ahead}
use Rattle.programs.proofs.chunkplan.resume.write_missing.Goals as goal

-- a walk over the tasks of a stage has tasks to give
module _ (stage : StageValue) (walk : Tasks ChunkGrid) (has : HasPlansOf stage walk) where
  some_plans : (plans : List TaskPlan) × AreStagePlans (stage_of stage) plans × PlansToCome stage.source.now stage.target.now walk plans
  some_plans =
      let (plans, come) = tasks_ahead dimensions_in key_in stage.source.now stage.target.now walk has.have walk []
      (first_task dimensions_in key_in stage.source.now stage.target.now walk walk refl has.can) in
      (plans, has.are plans come, come)

  -- the lines of the tasks that aren't done, and behind them those of the unexpected keys
  module _ (cover : Box) (covers : Covers (dimensions_of stage.target.now) (moved stage.at.items stage.region) cover) (few : length (chunks_in cover) < 2 ^ 29)
      (keys : List (List ℕ)) (stored : StoredChunks) (unexpected : List ℕ)
      (noted : HaveNoted (dimensions_of stage.target.now) (key_of stage.target.now) (chunks_in cover) keys stored unexpected) (share : Share) where
    abbrev AreLines : List ℕ → Type 0
    AreLines text = (plans : List TaskPlan) × PlansToCome stage.source.now stage.target.now walk plans × (text ≡ share_unless_stored (Some stored) share plans)

    abbrev IsWhole : List ℕ → Type 0
    IsWhole text = (plans : List TaskPlan) × AreStagePlans (stage_of stage) plans × IsMissingText (stage_of stage) keys share plans text

    both : (plans : List TaskPlan) → PlansToCome stage.source.now stage.target.now walk plans
        → IsMissingText (stage_of stage) keys share plans (share_unless_stored (Some stored) share plans ++ unexpected)
    both plans come = still_missing stage cover covers few keys stored plans (has.are plans come) unexpected noted share

    lines_begin : Begins AreLines IsWhole
    lines_begin text (plans, come, is) = (unexpected, (plans, has.are plans come, rw is (both plans come)))

    whole : (text : List ℕ) → Behind AreLines (λ text. text ≡ unexpected) text → IsWhole text
    whole text (one, other, (plans, come, is), same, joined) = (plans, has.are plans come, rw (joined, is, same) (both plans come))

  -- without any key there is a text
  without_keys : (cover : Box) → Covers (dimensions_of stage.target.now) (moved stage.at.items stage.region) cover → length (chunks_in cover) < 2 ^ 29
      → (stored : StoredChunks) → Knows (dimensions_of stage.target.now) (key_of stage.target.now) (chunks_in cover) [] stored → (share : Share)
      → (text : List ℕ) × missing_text share [] (stage_of stage) (Ok text)
  without_keys cover covers few stored knows share =
      let (plans, are, come) = some_plans in
      let noted = none_noted (dimensions_of stage.target.now) (key_of stage.target.now) (chunks_in cover) stored [] knows refl in
      (share_unless_stored (Some stored) share plans ++ [], (plans, are, ([], no_line, both cover covers few [] stored [] noted share plans come)))

pub returns-in_err-walk-clause-leaves : goal.returns-in_err-walk-clause-leaves
returns-in_err-walk-clause-leaves g c = λ bytes is.
    let stage = stage_of c.args.stage.now in
    read_first (plans_in stage) (missing_of c.args.share.now bytes stage) _ _ _ (stage_still stage) _ _ c.from_residual.ensures.1 c.in_err-walk.ensures

pub returns-in_err-stored-clause-leaves : goal.returns-in_err-stored-clause-leaves
returns-in_err-stored-clause-leaves g c = λ bytes is.
    let stage = stage_of c.args.stage.now in
    let (plans, are, come) = some_plans c.args.stage.now c.in_ok-walk.walk c.in_ok-walk.ensures in
    let Text = missing_text c.args.share.now bytes stage in
    early_beside (λ text. Text (Ok text)) (λ fault. Text (Err fault)) _ _ _
    (none_of_reading (λ fault. Text (Err fault)) (missing_still c.args.share.now bytes stage))
    (none_of_writing (λ fault. Text (Err fault)) (missing_still c.args.share.now bytes stage)) _ _ c.from_residual-in_err-stored.ensures.1 c.in_err-stored.ensures
    (λ (same, cover, covers, many). rw same (inr (plans, are, (length (chunks_in cover), (cover, covers, refl), many))))

pub returns-in_err-note_keys-clause-leaves : goal.returns-in_err-note_keys-clause-leaves
returns-in_err-note_keys-clause-leaves g c = λ bytes is.
    let stage = stage_of c.args.stage.now in
    let (plans, are, come) = some_plans c.args.stage.now c.in_ok-walk.walk c.in_ok-walk.ensures in
    let (cover, covers, few, knows) = c.in_ok-stored.ensures in
    rw (handed _ _ c.from_residual-in_err-note_keys.ensures.1)
    (noting_stops _ (λ fault. missing_text c.args.share.now bytes stage (Err fault)) _ _ _ bytes _ _ (rw is at c.in_err-note_keys.ensures.refused)
    (λ number first. inr (plans, are, ((length (chunks_in cover), (cover, covers, refl), few), first))))

pub returns-in_err-write_share-clause-leaves : goal.returns-in_err-write_share-clause-leaves
returns-in_err-write_share-clause-leaves g c = λ bytes is.
    let value = c.args.stage.now in
    let stage = stage_of value in
    let target = dimensions_of value.target.now in
    let IsKeyOf = key_of value.target.now in
    let Text = missing_text c.args.share.now bytes stage in
    let (cover, covers, few, knows) = c.in_ok-stored.ensures in
    let (keys, are, noted) = c.in_ok-note_keys.ensures.noted bytes (chunks_in cover) is
    (none_noted target IsKeyOf (chunks_in cover) c.in_ok-stored.stored _ knows c.new-unexpected.ensures.items)
    in
    let Whole : List ℕ → Type 0 = λ text. (plans : List TaskPlan) × AreStagePlans stage plans × IsMissingText stage keys c.args.share.now plans text in
    let before : Output = written g.W.Write.contents c.args.sink.now in
    let after : Output = written g.W.Write.contents c.write_share.new.sink in
    let begins = lines_begin value c.in_ok-walk.walk c.in_ok-walk.ensures cover covers few keys c.note_keys.new.stored c.note_keys.new.unexpected.items noted
    c.args.share.now
    in
    rw (handed _ _ c.from_residual-in_err-write_share.ensures.1)
    (after_reading (λ text. Text (Ok text)) (λ fault. Text (Err fault)) _ _ before
    (none_of_reading (λ fault. Text (Err fault)) (missing_still c.args.share.now bytes stage)) after _ c.in_ok-note_keys.ensures.failed
    (rw is at c.in_ok-note_keys.ensures.end) (Err _)
    (text_follows Whole (λ text. Text (Ok text)) (λ fault. Text (Err fault)) (λ text (plans, have, missing). (plans, have, (keys, are, missing))) before after (Err _)
    (stops_whole _ _ begins before after _ c.in_err-write_share.ensures)))

pub returns-clause-leaves : goal.returns-clause-leaves
returns-clause-leaves g c = λ bytes is.
    let value = c.args.stage.now in
    let stage = stage_of value in
    let target = dimensions_of value.target.now in
    let IsKeyOf = key_of value.target.now in
    let Text = missing_text c.args.share.now bytes stage in
    let (cover, covers, few, knows) = c.in_ok-stored.ensures in
    let (keys, are, noted) = c.in_ok-note_keys.ensures.noted bytes (chunks_in cover) is
    (none_noted target IsKeyOf (chunks_in cover) c.in_ok-stored.stored _ knows c.new-unexpected.ensures.items)
    in
    let Whole : List ℕ → Type 0 = λ text. (plans : List TaskPlan) × AreStagePlans stage plans × IsMissingText stage keys c.args.share.now plans text in
    let before : Output = written g.W.Write.contents c.args.sink.now in
    let between : Output = written g.W.Write.contents c.write_share.new.sink in
    let after : Output = written g.W.Write.contents c.send_text.new.sink in
    let begins = lines_begin value c.in_ok-walk.walk c.in_ok-walk.ensures cover covers few keys c.note_keys.new.stored c.note_keys.new.unexpected.items noted
    c.args.share.now
    in
    let ends = whole value c.in_ok-walk.walk c.in_ok-walk.ensures cover covers few keys c.note_keys.new.stored c.note_keys.new.unexpected.items noted
    c.args.share.now
    in
    after_reading (λ text. Text (Ok text)) (λ fault. Text (Err fault)) _ _ before
    (none_of_reading (λ fault. Text (Err fault)) (missing_still c.args.share.now bytes stage)) after _ c.in_ok-note_keys.ensures.failed
    (rw is at c.in_ok-note_keys.ensures.end) c.send_text.result
    (text_follows Whole (λ text. Text (Ok text)) (λ fault. Text (Err fault)) (λ text (plans, have, missing). (plans, have, (keys, are, missing))) before after c.send_text.result
    (ends_behind _ (λ text. text ≡ c.note_keys.new.unexpected.items) _ before between after c.in_ok-write_share.ensures begins ends c.send_text.result
    c.send_text.ensures))

pub returns-in_err-walk-clause-keys_last : goal.returns-in_err-walk-clause-keys_last
returns-in_err-walk-clause-keys_last g c =
    let stage = stage_of c.args.stage.now in
    not_read (missing_text c.args.share.now [] stage) _ _ c.from_residual.ensures.1
    (λ same. none_of_reading _ (still_early _ (stage_still stage)) (rw same at c.in_err-walk.ensures))

pub returns-in_err-stored-clause-keys_last : goal.returns-in_err-stored-clause-keys_last
returns-in_err-stored-clause-keys_last g c =
    not_read (missing_text c.args.share.now [] (stage_of c.args.stage.now)) _ _ c.from_residual-in_err-stored.ensures.1
    (no_read_fault _ (⊎_elim inl (λ many. inr many.0) c.in_err-stored.ensures))

pub returns-in_err-note_keys-clause-keys_last : goal.returns-in_err-note_keys-clause-keys_last
returns-in_err-note_keys-clause-keys_last g c =
    let (cover, covers, few, knows) = c.in_ok-stored.ensures in
    may_read (missing_text c.args.share.now [] (stage_of c.args.stage.now))
    (without_keys c.args.stage.now c.in_ok-walk.walk c.in_ok-walk.ensures cover covers few c.in_ok-stored.stored knows c.args.share.now)
    c.from_residual-in_err-note_keys.result

pub returns-in_err-write_share-clause-keys_last : goal.returns-in_err-write_share-clause-keys_last
returns-in_err-write_share-clause-keys_last g c =
    let (cover, covers, few, knows) = c.in_ok-stored.ensures in
    may_read (missing_text c.args.share.now [] (stage_of c.args.stage.now))
    (without_keys c.args.stage.now c.in_ok-walk.walk c.in_ok-walk.ensures cover covers few c.in_ok-stored.stored knows c.args.share.now)
    c.from_residual-in_err-write_share.result

pub returns-clause-keys_last : goal.returns-clause-keys_last
returns-clause-keys_last g c =
    let (cover, covers, few, knows) = c.in_ok-stored.ensures in
    may_read (missing_text c.args.share.now [] (stage_of c.args.stage.now))
    (without_keys c.args.stage.now c.in_ok-walk.walk c.in_ok-walk.ensures cover covers few c.in_ok-stored.stored knows c.args.share.now)
    c.send_text.result
