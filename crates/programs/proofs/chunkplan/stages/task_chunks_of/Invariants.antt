use Rattle.programs.proofs.chunkplan.Common.{◌≡◌, map, non_zero_u64_get, take}
use Rattle.programs.proofs.chunkplan.stages.task_chunks_of.Given as goal

-- those of the stages so far
abbrev pub invariant-loop-stage : goal.invariant-loop-stage
invariant-loop-stage l =
    map (λ v. map non_zero_u64_get v.items) l.each.items ≡ map (λ stage. map non_zero_u64_get stage.task_chunks.items) (take l.stage-index l.tasks)
