use Rattle.std.proofs.Common.{◌∙◌, sym}
use Rattle.std.proofs.lemmas.List.{length-map}
use Rattle.std.specs.Int.NonZero.{non_zero_u64_get}
use Rattle.zarrs_chunk_tasks.proofs.TaskCounts.{counts_by_target}
use Rattle.zarrs_chunk_tasks.proofs.TaskLaws.{as_many_dimensions, chunks_of_target}
use Rattle.zarrs_chunk_tasks.proofs.counts.task_counts.Goals as goal

pub counts_of-requires-clause-each : goal.counts_of-requires-clause-each
counts_of-requires-clause-each g c =
    sym (length-map c.args.task_chunks.now non_zero_u64_get) ∙ chunks_of_target _ _ _ _ _ c.in_ok-moved.ensures.has

pub returns-clause-counts : goal.returns-clause-counts
returns-clause-counts g c = λ tasks are.
    let source = g.G.ChunkGridTraits.dimensions c.args.source.now in
    let target = g.H.ChunkGridTraits.dimensions c.args.target.now in
    counts_by_target source target c.args.region.now c.args.at.now c.args.task_chunks.now c.in_ok-moved.ensures.has
    (g.met.G.ChunkGridTraits.chained c.args.source.now) (g.met.H.ChunkGridTraits.chained c.args.target.now) c.is_a_box.ensures
    (rw c.in_ok-moved.ensures.value at c.is_a_box-2.ensures) tasks _ are
    (rw (c.in_ok-moved.ensures.value, c.start.ensures.value) at (c.in_ok-counts_of.ensures {u = tt}))

pub returns-clause-long : goal.returns-clause-long
returns-clause-long g c =
    let counts = c.in_ok-counts_of.ensures {u = tt} in
    counts.long ∙ sym (as_many_dimensions _ _ _ _ _ c.in_ok-moved.ensures.has)
