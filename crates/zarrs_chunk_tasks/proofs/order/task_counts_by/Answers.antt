use Rattle.zarrs_chunk_tasks.proofs.order.task_counts_by.Goals as goal

pub returns-in-Target-clause-counts : goal.returns-in-Target-clause-counts
returns-in-Target-clause-counts g c = rw c.in-Target.is c.task_counts.ensures.counts

pub returns-in-Source-clause-counts : goal.returns-in-Source-clause-counts
returns-in-Source-clause-counts g c = rw c.in-Source.is c.task_counts_by_source.ensures.counts
