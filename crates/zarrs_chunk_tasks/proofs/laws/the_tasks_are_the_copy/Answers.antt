use Rattle.zarrs_chunk_tasks.proofs.TaskLaws.{copy_by_source, copy_by_target}
use Rattle.zarrs_chunk_tasks.proofs.laws.the_tasks_are_the_copy.Goals as goal

pub returns-clause-by_target : goal.returns-clause-by_target
returns-clause-by_target g c = λ at each tasks has are.
    copy_by_target (g.G.ChunkGridTraits.dimensions c.args.source.now) (g.H.ChunkGridTraits.dimensions c.args.target.now) c.args.region.now at each has tasks
    (g.met.H.ChunkGridTraits.chained c.args.target.now) are

pub returns-clause-by_source : goal.returns-clause-by_source
returns-clause-by_source g c = λ at each tasks has are.
    copy_by_source (g.G.ChunkGridTraits.dimensions c.args.source.now) (g.H.ChunkGridTraits.dimensions c.args.target.now) c.args.region.now at each has tasks
    (g.met.G.ChunkGridTraits.chained c.args.source.now) are
