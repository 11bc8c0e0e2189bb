use Rattle.std.proofs.Common.{arith, refl, take_all}
use Rattle.zarrs_chunk_tasks.proofs.TriedSizes.{chunks_more}
use Rattle.zarrs_chunk_tasks.proofs.tried.chunks_to.Goals as goal

pub loop-dimension-init : goal.loop-dimension-init
loop-dimension-init c = λ few. refl

pub loop-dimension-preserved : goal.loop-dimension-preserved
loop-dimension-preserved c = λ few.
    chunks_more c.args.last.now c.loop-dimension.dimension c.loop-dimension.chunks c.saturating_add.result _ c.loop-dimension-test.true few
    (c.loop-dimension.invariant few) c.saturating_add.ensures c.saturating_mul-chunks.ensures

pub returns : goal.returns
returns c = λ few.
    let whole = take_all c.loop-dimension.dimension c.args.last.now (omega (arith, c.loop-dimension-test.false)) in rw whole at (c.loop-dimension.invariant few)
