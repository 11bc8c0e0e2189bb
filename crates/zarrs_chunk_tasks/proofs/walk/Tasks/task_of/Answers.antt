use Rattle.std.proofs.Common.{refl}
use Rattle.zarrs_chunk_tasks.proofs.walk.Tasks.task_of.Goals as goal

pub returns-clause-task : goal.returns-clause-task
returns-clause-task g c = λ is holds. record {
  numbers = refl;
  behind = c.in_ok-behind.behind;
  is_box = c.in_ok-behind.ensures.is_box;
  buffer = (rw c.as_slice.ensures at c.in_ok-behind.ensures.buffer) is holds;
  source = rw c.deref.ensures.value at c.in_ok-source.ensures.value;
  target = rw c.deref-2.ensures.value at c.in_ok-target.ensures.value;
}
