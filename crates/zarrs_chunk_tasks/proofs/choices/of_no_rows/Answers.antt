use Rattle.std.proofs.Common.{arith}
use Rattle.zarrs_chunk_tasks.proofs.CheapestChoices.{of_no_rows}
use Rattle.zarrs_chunk_tasks.proofs.choices.of_no_rows.Goals as goal

pub returns : goal.returns
returns c =
    rw c.new.ensures.items
    (of_no_rows c.args.room c.args.worth c.args.read c.args.decoded c.args.bound c.saturating_add-cost.result (omega arith)
    (rw (← c.from.ensures, ← c.saturating_mul.ensures) c.saturating_add-cost.ensures) (c.is_below.ensures.0 c.if-not-is_below.false))
