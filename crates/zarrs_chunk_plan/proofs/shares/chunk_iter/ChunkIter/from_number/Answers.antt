use Rattle.zarrs_chunk_plan.proofs.shares.FromNumber.{left_from}
use Rattle.zarrs_chunk_plan.proofs.shares.chunk_iter.ChunkIter.from_number.Goals as goal

pub returns-clause-left : goal.returns-clause-left
returns-clause-left c =
    let chunks = c.args.chunks in
    let listed = rw c.shape-2.ensures.value at c.in_ok-next.ensures in
    left_from chunks.start chunks.shape c.in_ok-next.next.items c.args.number listed.1
