use Rattle.std.proofs.Common.{false, refl}
use Rattle.programs.proofs.chunkplan.document.wanted_from.Goals as goal

pub returns : goal.returns
returns c = (false, rw c.if-branch.false at c.in_ok-member_flag.ensures, (_, c.in_ok-member_share.ensures, refl))
