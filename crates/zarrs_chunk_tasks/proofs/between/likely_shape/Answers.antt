use Rattle.std.proofs.Common.{◌∙◌, ap, length}
use Rattle.zarrs_chunk_tasks.proofs.TwoStages.{one_each}
use Rattle.zarrs_chunk_tasks.proofs.between.likely_shape.Goals as goal

pub least_of_both-requires-clause-long : goal.least_of_both-requires-clause-long
least_of_both-requires-clause-long g c =
    ap length c.deref.ensures.value
    ∙ one_each c.args.edges.now c.loop-number.number c.in_ok-chunks.chunks.items (c.in_ok-chunks.ensures {u = tt}) ∙ c.requires.long
