use Rattle.std.proofs.Common.{inr, refl}
use Rattle.zarrs_chunk_tasks.proofs.sizes.keep.Goals as goal

pub returns-else-not-is_beaten : goal.returns-else-not-is_beaten
returns-else-not-is_beaten c = inr (refl, rw c.deref.ensures.value at (c.if-not-is_beaten.ensures {u = tt} refl))
