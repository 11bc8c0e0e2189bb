use Rattle.programs.proofs.chunkplan.Common.{inl, inr, refl}
use Rattle.std.proofs.lemmas.Result.{err_from_is_err_and}
use Rattle.programs.specs.chunkplan.RunFault.{of_tasks}
use Rattle.programs.specs.chunkplan.Stages.{IsCountFault}
use Rattle.programs.specs.chunkplan.seen.Routes.{stage_of}
use Rattle.programs.proofs.chunkplan.Steps.{refused_or}
use Rattle.programs.proofs.chunkplan.counting.counts_of_stage.Goals as goal

pub returns-then-not-can : goal.returns-then-not-can
returns-then-not-can c =
    inr (inr (c.in_ok-tasks_of.ensures.has, refl, rw c.as_slice-at.ensures.value at (c.in_ok-can.ensures c.if-not-can.true)))

pub returns : goal.returns
returns c =
    let said = c.in_ok-counts.ensures in
    record {
      has = rw c.as_slice-at.ensures.value at said.has;
      are = λ tasks are. rw c.as_slice-at.ensures.value at said.counts tasks are;
    }

pub returns-in_err-counts : goal.returns-in_err-counts
returns-in_err-counts c =
    let told = c.from_residual-in_err-counts in
    let p = err_from_is_err_and told.result told.ensures.1 in
    rw (p.1, p.2)
    (refused_or of_tasks _ (IsCountFault (stage_of c.args.stage.now)) (λ error is. inl (error, is, refl)) _
    (rw c.as_slice-at.ensures.value at c.in_err-counts.ensures.refused))
