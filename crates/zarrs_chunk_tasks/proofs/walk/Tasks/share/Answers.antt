use Rattle.std.proofs.Common.{ap, map}
use Rattle.std.specs.Int.NonZero.{non_zero_u64_get}
use Rattle.zarrs_chunks.specs.Walks.{chunks_in}
use Rattle.zarrs_chunk_plan.specs.Shares.{share_of}
use Rattle.zarrs_chunk_plan.proofs.ShareLists.{all_of_share}
use Rattle.zarrs_chunk_plan.specs.seen.ChunkIter.{all_between}
use Rattle.zarrs_chunk_tasks.specs.Groups.{HoldsSomeOf}
use Rattle.zarrs_chunk_tasks.proofs.Sharing.{hold_after}
use Rattle.zarrs_chunk_tasks.proofs.walk.Tasks.share.Goals as goal

pub returns-clause-can : goal.returns-clause-can
returns-clause-can g c = λ can.
    let before = c.args.self.now in
    let Holds = HoldsSomeOf (g.G.ChunkGridTraits.dimensions before.grid.now) (map non_zero_u64_get before.each.now) before.elements in
    record {
      cover = can.cover;
      all = rw (ap chunks_in c.share.ensures.chunks) can.all;
      hold = hold_after Holds c.share.result before.groups c.share.new.self (share_of c.args.share.now (all_between before.groups)) can.hold
          (all_of_share Holds c.args.share.now (all_between before.groups) can.all) c.share.ensures.left c.share.ensures.unchanged;
    }
