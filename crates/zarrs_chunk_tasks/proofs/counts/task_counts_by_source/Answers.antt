use Rattle.zarrs_chunk_tasks.proofs.TaskCounts.{counts_by_source}
use Rattle.zarrs_chunk_tasks.proofs.counts.task_counts_by_source.Goals as goal

pub returns-clause-counts : goal.returns-clause-counts
returns-clause-counts g c = λ tasks are.
    let source = g.G.ChunkGridTraits.dimensions c.args.source.now in
    let target = g.H.ChunkGridTraits.dimensions c.args.target.now in
    counts_by_source source target c.args.region.now c.args.at.now c.args.task_chunks.now c.in_ok-moved.ensures.has
    (g.met.G.ChunkGridTraits.chained c.args.source.now) (g.met.H.ChunkGridTraits.chained c.args.target.now) c.is_a_box.ensures
    (rw c.in_ok-moved.ensures.value at c.is_a_box-2.ensures) tasks _ are (rw c.start.ensures.value at (c.in_ok-counts_of.ensures {u = tt}))
