use Rattle.zarrs_chunk_tasks.proofs.WholeChunks.{read_apart, written_apart}
use Rattle.zarrs_chunk_tasks.proofs.laws.a_whole_chunk_is_in_one_task.Goals as goal

pub returns-clause-written : goal.returns-clause-written
returns-clause-written g c = λ order at each tasks has are.
    written_apart (g.G.ChunkGridTraits.dimensions c.args.source.now) (g.H.ChunkGridTraits.dimensions c.args.target.now)
    (g.met.G.ChunkGridTraits.chained c.args.source.now) (g.met.H.ChunkGridTraits.chained c.args.target.now) c.args.region.now at each has tasks order are

pub returns-clause-read : goal.returns-clause-read
returns-clause-read g c = λ order at each tasks has are.
    read_apart (g.G.ChunkGridTraits.dimensions c.args.source.now) (g.H.ChunkGridTraits.dimensions c.args.target.now)
    (g.met.G.ChunkGridTraits.chained c.args.source.now) (g.met.H.ChunkGridTraits.chained c.args.target.now) c.args.region.now at each has tasks order are
