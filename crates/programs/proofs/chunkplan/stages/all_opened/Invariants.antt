use Rattle.programs.proofs.chunkplan.Common.{map, non_zero_u64_get, take, AllZip}
use Rattle.programs.specs.chunkplan.Stages.{IsIntermediate}
use Rattle.programs.specs.chunkplan.seen.Routes.{intermediate_of}
use Rattle.programs.proofs.chunkplan.stages.all_opened.Given as goal

-- the arrays so far have chunks of the shapes so far
abbrev pub invariant-loop-chunk : goal.invariant-loop-chunk
invariant-loop-chunk l =
    AllZip (IsIntermediate l.shape) (map (λ chunk. map non_zero_u64_get chunk.items) (take l.chunk-index l.chunks)) (map intermediate_of l.between.items)
