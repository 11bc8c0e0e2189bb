use Rattle.std.proofs.Common.{ap, map, drop}
use Rattle.std.specs.Int.NonZero.{non_zero_u64_get}
use Rattle.zarrs_chunks.specs.Walks.{chunks_in}
use Rattle.zarrs_chunk_plan.specs.seen.ChunkIter.{all_between}
use Rattle.zarrs_chunk_tasks.specs.Groups.{HoldsSomeOf}
use Rattle.zarrs_chunk_tasks.proofs.Sharing.{all_dropped, hold_after}
use Rattle.zarrs_chunk_tasks.proofs.walk.Tasks.skip_to.Goals as goal

pub returns-clause-can : goal.returns-clause-can
returns-clause-can g c = λ can.
    let before = c.args.self.now in
    let Holds = HoldsSomeOf (g.G.ChunkGridTraits.dimensions before.grid.now) (map non_zero_u64_get before.each.now) before.elements in
    record {
      cover = can.cover;
      all = rw (ap chunks_in c.skip_to.ensures.chunks) can.all;
      hold = hold_after Holds c.skip_to.result before.groups c.skip_to.new.self (drop c.args.first (all_between before.groups)) can.hold
          (all_dropped Holds c.args.first (all_between before.groups) can.all) c.skip_to.ensures.left c.skip_to.ensures.unchanged;
    }
