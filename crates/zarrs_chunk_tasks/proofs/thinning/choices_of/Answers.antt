use Rattle.std.proofs.Common.{arith, refl, take_all}
use Rattle.zarrs_chunk_tasks.proofs.ThinnedRows.{choices_more}
use Rattle.zarrs_chunk_tasks.proofs.thinning.choices_of.Goals as goal

pub loop-row-init : goal.loop-row-init
loop-row-init g c = refl

pub loop-row-preserved : goal.loop-row-preserved
loop-row-preserved g c =
    choices_more c.args.rows.now c.loop-row.row-index c.row-item.result c.loop-row.choices _ c.loop-row-test.true c.row-item.is c.loop-row.invariant
    (rw c.as_slice.ensures.value at c.saturating_mul-choices.ensures)

pub returns : goal.returns
returns g c =
    let whole = take_all c.loop-row.row-index c.args.rows.now (omega (arith, c.loop-row-test.false)) in rw whole at c.loop-row.invariant
