use Rattle.programs.proofs.chunkplan.Common.{inr, kind_in}
use Rattle.programs.proofs.chunkplan.plan.resized_grid.Goals as goal

pub returns-in-Ok : goal.returns-in-Ok
returns-in-Ok c = (kind_in c.in-Ok.grid, c.in-Ok.ensures.made)

pub returns-in-Err-Refused : goal.returns-in-Err-Refused
returns-in-Err-Refused c =
    let refused = c.in-Err-Refused in
    inr (rw refused.field-0-is at refused.ensures.made)
