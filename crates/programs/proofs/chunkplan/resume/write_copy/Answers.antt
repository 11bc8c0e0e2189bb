use Rattle.programs.proofs.chunkplan.Common.{[], inr, copying_of}
use Rattle.programs.specs.chunkplan.Planned.{copy_stages, missing_text}
use Rattle.programs.specs.chunkplan.Stages.{asked_in, number_asked}
use Rattle.documents.specs.Reading.{then}
use Rattle.programs.specs.chunkplan.seen.Opened.{array_in}
use Rattle.programs.specs.chunkplan.seen.Routes.{stage_of, stages_found}
use Rattle.programs.proofs.chunkplan.KeySteps.{read_first, read_later}
use Rattle.programs.proofs.chunkplan.ReadsLast.{fails_later}
use Rattle.programs.proofs.chunkplan.RunOutcomes.{asked_still, copy_stages_still}
use Rattle.programs.proofs.chunkplan.resume.write_copy.Goals as goal

pub returns-in_err-found-clause-leaves : goal.returns-in_err-found-clause-leaves
returns-in_err-found-clause-leaves g c = λ bytes is.
    let copying = copying_of c.args.copying in
    let source = array_in c.args.array.now in
    let target = array_in c.args.target.now in
    read_first (copy_stages copying source target) (λ stages. then (asked_in (number_asked copying.choice) stages.1) (missing_text c.args.share.now bytes)) _ _ _
    (copy_stages_still copying source target) _ _ c.from_residual.ensures.1 c.in_err-found.ensures

pub returns-in_err-stage-clause-leaves : goal.returns-in_err-stage-clause-leaves
returns-in_err-stage-clause-leaves g c = λ bytes is.
    let copying = copying_of c.args.copying in
    let source = array_in c.args.array.now in
    let target = array_in c.args.target.now in
    let stages = stages_found source target c.in_ok-found.found in
    let told = rw (c.deref.ensures.value, c.in_ok-stages.ensures, c.stage-asked.ensures) at c.in_err-stage.ensures in
    read_later (copy_stages copying source target) (λ stages. then (asked_in (number_asked copying.choice) stages.1) (missing_text c.args.share.now bytes)) _ _ _
    stages c.in_ok-found.ensures _ _ _
    (read_first (asked_in (number_asked copying.choice) stages.1) (missing_text c.args.share.now bytes) _ _ _ (asked_still (number_asked copying.choice) stages.1)
    _ _ c.from_residual-in_err-stage.ensures.1 (inr told))

pub returns-clause-leaves : goal.returns-clause-leaves
returns-clause-leaves g c = λ bytes is.
    let copying = copying_of c.args.copying in
    let source = array_in c.args.array.now in
    let target = array_in c.args.target.now in
    let stages = stages_found source target c.in_ok-found.found in
    let asked = rw (c.deref.ensures.value, c.in_ok-stages.ensures, c.stage-asked.ensures) at c.in_ok-stage.ensures in
    read_later (copy_stages copying source target) (λ stages. then (asked_in (number_asked copying.choice) stages.1) (missing_text c.args.share.now bytes)) _ _ _
    stages c.in_ok-found.ensures _ _ _
    (read_later (asked_in (number_asked copying.choice) stages.1) (missing_text c.args.share.now bytes) _ _ _ (stage_of c.in_ok-stage.stage.now) asked _ _ _
    (c.write_missing.ensures.leaves bytes is))

pub returns-clause-keys_last : goal.returns-clause-keys_last
returns-clause-keys_last g c =
    let copying = copying_of c.args.copying in
    let source = array_in c.args.array.now in
    let target = array_in c.args.target.now in
    let stages = stages_found source target c.in_ok-found.found in
    let asked = rw (c.deref.ensures.value, c.in_ok-stages.ensures, c.stage-asked.ensures) at c.in_ok-stage.ensures in
    fails_later (copy_stages copying source target) (λ stages. then (asked_in (number_asked copying.choice) stages.1) (missing_text c.args.share.now []))
    stages c.in_ok-found.ensures c.write_missing.result
    (fails_later (asked_in (number_asked copying.choice) stages.1) (missing_text c.args.share.now []) (stage_of c.in_ok-stage.stage.now) asked
    c.write_missing.result c.write_missing.ensures.keys_last)
