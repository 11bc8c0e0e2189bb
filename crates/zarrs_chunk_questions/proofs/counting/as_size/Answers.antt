use Rattle.std.proofs.Common.{sym, arith, ⊎_elim}
use Rattle.zarrs_chunk_plan.proofs.ByNumber.{counted_cases}
use Rattle.zarrs_chunk_questions.proofs.counting.as_size.Goals as goal

pub returns-then-number : goal.returns-then-number
returns-then-number c = ⊎_elim (λ (low, some). sym some) (λ (past, none). absurd (omega arith)) (counted_cases c.args.number)

pub returns-else-number : goal.returns-else-number
returns-else-number c = ⊎_elim (λ (low, some). absurd (omega arith)) (λ (past, none). sym none) (counted_cases c.args.number)
