use Rattle.std.proofs.Common.{◌∙◌, sym}
use Rattle.std.proofs.lemmas.List.{length-map}
use Rattle.std.specs.Int.NonZero.{non_zero_u64_get}
use Rattle.zarrs_chunk_plan.specs.Region.{moved}
use Rattle.zarrs_chunk_tasks.proofs.SomeTasks.{has_tasks}
use Rattle.zarrs_chunk_tasks.proofs.TaskLaws.{chunks_of_source, chunks_of_target}
use Rattle.zarrs_chunk_tasks.proofs.laws.there_are_tasks.Goals as goal

pub returns-clause-by_target : goal.returns-clause-by_target
returns-clause-by_target g c = λ at has is_box.
    let region = c.args.region.now in
    let each = c.args.task_chunks.now in
    has_tasks (g.H.ChunkGridTraits.dimensions c.args.target.now) each (moved at region) region.start at (g.met.H.ChunkGridTraits.chained c.args.target.now)
    is_box has.can.in_target (sym (length-map each non_zero_u64_get) ∙ chunks_of_target _ _ _ _ _ has)

pub returns-clause-by_source : goal.returns-clause-by_source
returns-clause-by_source g c = λ at has.
    let region = c.args.region.now in
    let each = c.args.task_chunks.now in
    has_tasks (g.G.ChunkGridTraits.dimensions c.args.source.now) each region region.start at (g.met.G.ChunkGridTraits.chained c.args.source.now)
    c.is_a_box.ensures has.can.in_source (sym (length-map each non_zero_u64_get) ∙ chunks_of_source _ _ _ _ _ has)
