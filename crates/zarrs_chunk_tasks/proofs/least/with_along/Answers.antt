use Rattle.zarrs_chunk_tasks.proofs.LeastStage.{limits_with}
use Rattle.zarrs_chunk_tasks.proofs.least.with_along.Goals as goal

pub returns : goal.returns
returns c = λ all are.
    limits_with all c.args.along c.args.limits _ c.requires are (rw c.from.ensures at c.saturating_mul.ensures) (rw c.from-2.ensures at c.saturating_mul-2.ensures)
    (rw c.from-3.ensures at c.saturating_mul-3.ensures) (rw c.from-4.ensures at c.saturating_mul-4.ensures) (rw c.from-5.ensures at c.saturating_mul-5.ensures)
