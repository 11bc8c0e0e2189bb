use Rattle.zarrs_chunk_tasks.proofs.LeastReads.{read_no_fewer}
use Rattle.zarrs_chunk_tasks.proofs.laws.tasks_read_no_fewer.Goals as goal

pub returns : goal.returns
returns g c = λ at tasks parts others has is_moved are at_most has_part.
    read_no_fewer (g.G.ChunkGridTraits.dimensions c.args.source.now) (g.H.ChunkGridTraits.dimensions c.args.target.now) c.args.region.now at c.args.task_chunks.now has
    (g.met.G.ChunkGridTraits.chained c.args.source.now) (g.met.H.ChunkGridTraits.chained c.args.target.now) c.is_a_box.ensures is_moved tasks are parts others at_most
    has_part
