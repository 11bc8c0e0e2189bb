use Rattle.zarrs_chunk_plan.proofs.shares.Ranks.{digits_are}
use Rattle.zarrs_chunk_plan.proofs.shares.chunk_iter.first_of_share.Goals as goal

pub returns : goal.returns
returns c = λ some. rw c.in_ok-first.ensures (digits_are c.args.shape.now c.args.share.now.number c.args.share.now.of c.args.share.now.one_of some)
