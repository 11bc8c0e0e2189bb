use Rattle.zarrs_chunk_plan.proofs.Common.{arith}
use Rattle.zarrs_chunk_plan.proofs.resize.Kept.{kept_are}
use Rattle.zarrs_chunk_plan.proofs.resize.used.kept_along.Goals as goal

pub returns-clause-kept : goal.returns-clause-kept
returns-clause-kept g c = λ resized named named_after.
    let (long, least, keeps) = c.loop-dimension.invariant in
    kept_are _ _ _ _ _ resized c.requires.lengths (omega arith) named named_after (λ k within. least k (omega arith))
    (λ k within. keeps k (omega arith))
