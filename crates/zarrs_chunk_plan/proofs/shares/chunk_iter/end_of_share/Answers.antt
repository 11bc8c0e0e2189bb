use Rattle.zarrs_chunk_plan.proofs.Common.{◌≡◌, ◌+◌, length, subst, sym, arith, AreBelow, row_major}
use Rattle.zarrs_chunk_plan.proofs.shares.BeforeShares.{all_before}
use Rattle.zarrs_chunk_plan.proofs.shares.Ranks.{digits_are}
use Rattle.zarrs_chunk_plan.proofs.shares.chunk_iter.end_of_share.Goals as goal

pub returns-then-share-clause-rank : goal.returns-then-share-clause-rank
returns-then-share-clause-rank c = λ some.
    sym (all_before c.args.share.now.number c.args.share.now.of (length (row_major c.args.shape.now)) c.if-share.true)

pub returns-clause-below : goal.returns-clause-below
returns-clause-below c = λ some e is.
    let share = c.args.share.now in
    let (below, at) = digits_are c.args.shape.now (share.number + 1) share.of (omega arith) some in
    let same : c.in_ok-end.end ≡ e = cc in
    subst (λ e. AreBelow c.args.shape.now e.items) same (rw c.in_ok-end.ensures below)

pub returns-clause-rank : goal.returns-clause-rank
returns-clause-rank c = λ some.
    let share = c.args.share.now in
    let (below, at) = digits_are c.args.shape.now (share.number + 1) share.of (omega arith) some in
    rw c.in_ok-end.ensures at
