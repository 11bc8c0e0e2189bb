use Rattle.std.proofs.Common.{Bool, true, false, cond}
use Rattle.callers.proofs.prepared.find_chunk.Goals as goal

pub returns-in_default : goal.returns-in_default
returns-in_default c grid prepared = rw c.in_default.is at c.in_ok-grid.ensures.grid grid prepared

-- of two facts in the first case, the first
pub first_fact : (found : Bool) (A B C : Type 0) → cond found (A × B) C → cond found A C
first_fact true A B C is = is.0
first_fact false A B C is = is

pub returns-in-Ok : goal.returns-in-Ok
returns-in-Ok c grid prepared =
    let is_read = rw c.in-Some.is at c.in_ok-grid.ensures.grid grid prepared in
    first_fact c.in-Ok.found _ _ _ (c.in-Ok.ensures.home grid is_read)
