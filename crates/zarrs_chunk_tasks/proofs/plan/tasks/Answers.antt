use Rattle.std.proofs.Common.{◌∙◌, sym}
use Rattle.std.proofs.lemmas.List.{length-map}
use Rattle.std.specs.Int.NonZero.{non_zero_u64_get}
use Rattle.zarrs_chunk_tasks.proofs.TaskLaws.{chunks_of_target}
use Rattle.zarrs_chunk_tasks.proofs.plan.tasks.Goals as goal

pub new-requires-clause-lengths : goal.new-requires-clause-lengths
new-requires-clause-lengths g c =
    sym (length-map c.args.task_chunks.now non_zero_u64_get) ∙ chunks_of_target _ _ _ _ _ c.in_ok-moved.ensures.has
