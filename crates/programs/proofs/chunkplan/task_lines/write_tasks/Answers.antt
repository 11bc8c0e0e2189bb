use Rattle.programs.proofs.chunkplan.Common.{◌≡◌, ◌∙◌, ℕ, suc, List, [], Err, ap, length, refl, arith, counted, option_map, TaskPlan, Output, written}
use Rattle.programs.proofs.chunkplan.Common.{sends_nothing, subst, sym, Ok, Some}
use Rattle.zarrs_chunk_tasks.specs.seen.Tasks.{GivesTask, all_groups}
use Rattle.programs.specs.chunkplan.seen.Resume.{line_unless_stored}
use Rattle.programs.specs.chunkplan.seen.Opened.{dimensions_in, key_in}
use Rattle.programs.specs.chunkplan.seen.PlannedTasks.{HasPartsOf}
use Rattle.programs.proofs.chunkplan.Exits.{handed}
use Rattle.programs.proofs.chunkplan.Numbered.{IsLineOf, way_ends, way_goes_on, way_memory, way_stops}
use Rattle.programs.proofs.chunkplan.Steps.{text_follows}
use Rattle.zarrs_chunk_tasks.proofs.TasksBegun.{first_task, last_task, one_more_task, tasks_ahead}
use Rattle.programs.proofs.chunkplan.task_lines.write_tasks.Goals as goal

pub loop-task-init : goal.loop-task-init
loop-task-init g c = λ begin is_first. (
  begin,
  is_first,
  (
    [],
    (
      [],
      first_task dimensions_in key_in c.args.source.now c.args.target.now c.args.walk c.into_iter-task-iterator.result c.into_iter-task-iterator.ensures.into_iter_gives c.requires.can,
      omega arith,
      refl,
    ),
    sends_nothing (written g.W.Write.contents c.args.sink.now),
    refl,
  ),
)

pub loop-task-preserved : goal.loop-task-preserved
loop-task-preserved g c = λ begin is_first.
    let (n, number_is, sent) = c.loop-task.invariant begin is_first in
    let source = c.args.source.now in
    let target = c.args.target.now in
    let walk = c.args.walk in
    let task = c.in_ok-task.field-0 in
    let gives = rw c.in_ok-task.was at c.in-Some.ensures.steps in
    let of = counted (length (all_groups walk)) in
    let (text, (plan, same, have, is), more, failed) = rw c.in_all-of.ensures at c.in_ok-write_task.ensures in (
      suc n,
      c.next_number-number.ensures n number_is,
      way_goes_on (λ n. line_unless_stored (option_map (λ s. s.now) c.args.stored) (counted n) of) begin _ _ (λ _. ⊥) (λ y. (y.0 ≡ task) × HasPartsOf source target y) n _ _ _ sent
          (λ came y had (is_task, has).
          one_more_task dimensions_in key_in source target walk c.loop-task.task-iterator c.next.new.self y came had
          (subst (λ t. GivesTask dimensions_in c.loop-task.task-iterator (Some (Ok t)) c.next.new.self) (sym is_task) gives) has) (
            text,
            (plan, (same, have), is ∙ ap (λ number. line_unless_stored (option_map (λ s. s.now) c.args.stored) number of plan) number_is),
            more,
            failed,
          ),
    )

-- ---- where it stops

pub returns-in_err-task : goal.returns-in_err-task
returns-in_err-task g c = λ begin is_first.
    let (n, number_is, sent) = c.loop-task.invariant begin is_first in
    rw (handed _ _ c.from_residual.ensures.1)
    (way_memory (λ n. line_unless_stored (option_map (λ s. s.now) c.args.stored) (counted n) (counted (length (all_groups c.args.walk)))) begin _ _ n _ _ sent
    (tasks_ahead dimensions_in key_in c.args.source.now c.args.target.now c.args.walk c.requires.have c.loop-task.task-iterator))

pub returns-in_err-write_task : goal.returns-in_err-write_task
returns-in_err-write_task g c = λ begin is_first.
    let (n, number_is, sent) = c.loop-task.invariant begin is_first in
    let source = c.args.source.now in
    let target = c.args.target.now in
    let walk = c.args.walk in
    let task = c.in_ok-task.field-0 in
    let gives = rw c.in_ok-task.was at c.in-Some.ensures.steps in
    let between : Output = written g.W.Write.contents c.loop-task.sink in
    let after : Output = written g.W.Write.contents c.write_task.new.sink in
    let of = counted (length (all_groups walk)) in
    let Line : ℕ → TaskPlan → List ℕ = λ n. line_unless_stored (option_map (λ s. s.now) c.args.stored) (counted n) of in
    let IsOne : TaskPlan → Type 0 = λ y. (y.0 ≡ task) × HasPartsOf source target y in
    let ahead = tasks_ahead dimensions_in key_in source target walk c.requires.have in
    rw (handed _ _ c.from_residual-in_err-write_task.ensures.1)
    (way_stops Line begin _ _ _ IsOne n _ _ _ sent
    (λ came y had (is_task, has).
    one_more_task dimensions_in key_in source target walk c.loop-task.task-iterator c.next.new.self y came had
    (subst (λ t. GivesTask dimensions_in c.loop-task.task-iterator (Some (Ok t)) c.next.new.self) (sym is_task) gives) has)
    (ahead c.loop-task.task-iterator) (ahead c.next.new.self) _
    (text_follows _ (IsLineOf Line begin IsOne n) (λ _. ⊥)
    (λ text (plan, same, have, is). (
      plan,
      (same, have),
      is ∙ ap (λ of. line_unless_stored (option_map (λ s. s.now) c.args.stored) c.loop-task.number of plan) c.in_all-of.ensures ∙ ap (λ number. line_unless_stored (option_map (λ s. s.now) c.args.stored) number of plan) number_is,
    ))
    between after (Err _) c.in_err-write_task.ensures))

pub returns : goal.returns
returns g c = λ begin is_first.
    let (n, number_is, sent) = c.loop-task.invariant begin is_first in
    way_ends (λ n. line_unless_stored (option_map (λ s. s.now) c.args.stored) (counted n) (counted (length (all_groups c.args.walk)))) begin _ _ n _ _ sent
    (λ came have. last_task dimensions_in key_in c.args.source.now c.args.target.now c.args.walk c.loop-task.task-iterator c.next.new.self came have c.in-None.ensures.steps)
