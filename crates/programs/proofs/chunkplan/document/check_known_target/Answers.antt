use Rattle.std.proofs.Common.{inr, refl}
use Rattle.programs.proofs.chunkplan.document.check_known_target.Goals as goal

pub returns-in-Err-Refused : goal.returns-in-Err-Refused
returns-in-Err-Refused c =
    let refused = c.in-Err-Refused in
    inr (refused.member, refl, rw refused.field-0-is at refused.ensures)
