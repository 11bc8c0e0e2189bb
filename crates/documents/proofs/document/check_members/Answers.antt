use Rattle.std.proofs.Common.{refl}
use Rattle.documents.proofs.document.check_members.Goals as goal

pub returns : goal.returns
returns c = (_, c.in_ok-required_member.ensures, (_, c.in_ok-required_member-2.ensures, (_, c.in_ok-required_member-3.ensures, refl)))
