use Rattle.programs.specs.chunkplan.Planned.{IsReadFault}
use Rattle.zarrs_chunks.specs.seen.Grids.{chained_in}
use Rattle.programs.specs.chunkplan.seen.Opened.{dimensions_of}
use Rattle.programs.proofs.chunkplan.Asked.{asked_fault}
use Rattle.programs.proofs.chunkplan.Steps.{early, step_follows}
use Rattle.programs.proofs.chunkplan.plan.write_read.Goals as goal

pub returns-in_err-asked : goal.returns-in_err-asked
returns-in_err-asked g c =
    early _ (IsReadFault c.args.clip (dimensions_of c.args.array.now) c.args.subset) _ _ _ c.from_residual.ensures.1 (λ h. h) c.in_err-asked.ensures.refused (λ is. is)

pub returns : goal.returns
returns g c =
    let ds = dimensions_of c.args.array.now in
    let asked = c.in_ok-asked.asked in
    let is_asked = c.in_ok-asked.ensures.asked in
    step_follows _ _ _ _
    (λ text is. (asked, is_asked, is))
    (asked_fault ds (chained_in c.args.array.now.grid) c.args.subset asked c.args.clip is_asked)
    _ _ c.write_asked.result c.write_asked.ensures
