use Rattle.std.proofs.Common.{refl, sym}
use Rattle.streams.proofs.OneLines.{all_stay}
use Rattle.streams.proofs.line_text.unbroken.Goals as goal

pub returns-then-are_printable : goal.returns-then-are_printable
returns-then-are_printable c = sym (all_stay c.args.text.items (rw c.deref.ensures.value at (c.if-are_printable.ensures {u = tt} refl)))
