use Rattle.programs.proofs.chunkplan.Common.{◌≡◌, Ok, inl, inr, refl, copying_of, counts_wanted, lines_wanted, task_lines, wanted_of, IsStagesLine}
use Rattle.documents.specs.Reading.{made_of}
use Rattle.programs.specs.chunkplan.Planned.{copy_stages, stages_text}
use Rattle.programs.specs.chunkplan.Stages.{IsFaultOfSome, asked_in, number_asked, plans_in}
use Rattle.programs.specs.chunkplan.seen.Opened.{array_in}
use Rattle.programs.specs.chunkplan.seen.Routes.{stage_of, stages_found}
use Rattle.programs.proofs.chunkplan.Exits.{handed}
use Rattle.programs.proofs.chunkplan.RunOutcomes.{asked_still, copy_stages_still, fault_of_some_still, none_of_writing}
use Rattle.programs.proofs.chunkplan.Steps.{early, made_text, step_first, step_later, text_follows}
use Rattle.programs.proofs.chunkplan.plan.write_copy.Goals as goal

pub returns-in_err-found : goal.returns-in_err-found
returns-in_err-found g c =
    let source = array_in c.args.source.now in
    let target = array_in c.args.target.now in
    let copying = copying_of c.args.copying in
    step_first (copy_stages copying source target) (stages_text (number_asked copying.choice) (wanted_of c.args.wanted.now)) _
    (copy_stages_still copying source target) _ _ c.from_residual.ensures.1 c.in_err-found.ensures

pub returns-in_err-stages : goal.returns-in_err-stages
returns-in_err-stages g c = rw (handed _ _ c.from_residual-in_err-stages.ensures.1) (refl, inl refl)

pub returns-in_err-stage-in-Lines : goal.returns-in_err-stage-in-Lines
returns-in_err-stage-in-Lines g c =
    let source = array_in c.args.source.now in
    let target = array_in c.args.target.now in
    let copying = copying_of c.args.copying in
    let stages = stages_found source target c.in_ok-found.found in
    let share = c.in-Lines.share in
    let told = rw (c.deref.ensures.value, c.in_ok-stages.ensures, c.stage-asked.ensures) at c.in_err-stage-in-Lines.ensures in
    rw c.in-Lines.is
    (step_later (copy_stages copying source target) (stages_text (number_asked copying.choice) (lines_wanted share)) _ stages c.in_ok-found.ensures _ _
    (step_first (asked_in (number_asked copying.choice) stages.1) (λ stage. made_of (plans_in stage) (λ plans text. text ≡ task_lines share plans)) _
    (asked_still (number_asked copying.choice) stages.1) _ _ c.from_residual-in_err-stage-in-Lines.ensures.1 (inr told)))

pub returns-in-Lines : goal.returns-in-Lines
returns-in-Lines g c =
    let source = array_in c.args.source.now in
    let target = array_in c.args.target.now in
    let copying = copying_of c.args.copying in
    let stages = stages_found source target c.in_ok-found.found in
    let share = c.in-Lines.share in
    let asked = rw (c.deref.ensures.value, c.in_ok-stages.ensures, c.stage-asked.ensures) at c.in_ok-stage-in-Lines.ensures in
    rw c.in-Lines.is
    (step_later (copy_stages copying source target) (stages_text (number_asked copying.choice) (lines_wanted share)) _ stages c.in_ok-found.ensures _ _
    (step_later (asked_in (number_asked copying.choice) stages.1) (λ stage. made_of (plans_in stage) (λ plans text. text ≡ task_lines share plans)) _
    (stage_of c.in_ok-stage-in-Lines.stage.now) asked _ _ c.write_stage.ensures))

pub returns-in_err-line-in-Counts : goal.returns-in_err-line-in-Counts
returns-in_err-line-in-Counts g c =
    let source = array_in c.args.source.now in
    let target = array_in c.args.target.now in
    let copying = copying_of c.args.copying in
    let stages = stages_found source target c.in_ok-found.found in
    let told = rw (c.deref-in-Counts.ensures.value, c.in_ok-stages.ensures) at c.in_err-line-in-Counts.ensures in
    rw c.in-Counts.is
    (step_later (copy_stages copying source target) (stages_text (number_asked copying.choice) counts_wanted) _ stages c.in_ok-found.ensures _ _
    (early _ (IsFaultOfSome stages.1) _ _ _ c.from_residual-in_err-line-in-Counts.ensures.1
    (none_of_writing (IsFaultOfSome stages.1) (fault_of_some_still stages.1)) told (λ is. is)))

pub returns : goal.returns
returns g c =
    let source = array_in c.args.source.now in
    let target = array_in c.args.target.now in
    let copying = copying_of c.args.copying in
    let stages = stages_found source target c.in_ok-found.found in
    let line = c.in_ok-line-in-Counts.line in
    let is_line = rw (c.deref-in-Counts.ensures.value, c.in_ok-stages.ensures) at c.in_ok-line-in-Counts.ensures in
    rw c.in-Counts.is
    (step_later (copy_stages copying source target) (stages_text (number_asked copying.choice) counts_wanted) _ stages c.in_ok-found.ensures _ _
    (text_follows _ (IsStagesLine stages) (IsFaultOfSome stages.1) (made_text (IsStagesLine stages) (Ok line) is_line) _ _ _ c.send_text.ensures))
