use Rattle.programs.specs.chunkplan.Stages.{IsStageFault}
use Rattle.programs.specs.chunkplan.seen.Routes.{stage_of}
use Rattle.programs.proofs.chunkplan.RunOutcomes.{none_of_writing, stage_still}
use Rattle.programs.proofs.chunkplan.Steps.{early, text_follows}
use Rattle.programs.proofs.chunkplan.task_lines.write_stage.Goals as goal

pub returns-in_err-walk : goal.returns-in_err-walk
returns-in_err-walk g c =
    let stage = stage_of c.args.stage.now in
    early _ (IsStageFault stage) _ _ _ c.from_residual.ensures.1 (none_of_writing (IsStageFault stage) (stage_still stage)) c.in_err-walk.ensures (λ is. is)

pub returns : goal.returns
returns g c =
    text_follows _ _ (IsStageFault (stage_of c.args.stage.now)) (λ text (plans, come, lines). (plans, c.in_ok-walk.ensures.are plans come, lines)) _ _ _
    c.write_share.ensures
