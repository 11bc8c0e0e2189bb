use Rattle.programs.proofs.chunkplan.Common.{map, non_zero_u64_get}
use Rattle.programs.specs.chunkplan.Stages.{IsIntermediate}
use Rattle.programs.specs.chunkplan.seen.Routes.{intermediate_of}
use Rattle.programs.proofs.chunkplan.RouteLists.{one_more_tied}
use Rattle.programs.proofs.chunkplan.stages.all_opened.Goals as goal

pub loop-chunk-preserved : goal.loop-chunk-preserved
loop-chunk-preserved c =
    rw c.in_ok-push.ensures.items
    (one_more_tied (IsIntermediate c.args.shape.now) (λ chunk. map non_zero_u64_get chunk.items) intermediate_of c.args.chunks.now c.loop-chunk.between.items
    c.loop-chunk.chunk-index c.chunk-item.result c.in_ok-opened.field-0 c.loop-chunk-test.true c.chunk-item.is c.loop-chunk.invariant
    (rw c.deref.ensures.value at c.in_ok-opened.ensures))
