use Rattle.zarrs_chunk_tasks.proofs.TaskLaws.{lies_by_source, lies_by_target}
use Rattle.zarrs_chunk_tasks.proofs.laws.each_task_lies_in_both_arrays.Goals as goal

pub returns-clause-by_target : goal.returns-clause-by_target
returns-clause-by_target g c = λ region at each tasks has are.
    lies_by_target (g.G.ChunkGridTraits.dimensions c.args.source.now) (g.H.ChunkGridTraits.dimensions c.args.target.now) region at each has tasks are

pub returns-clause-by_source : goal.returns-clause-by_source
returns-clause-by_source g c = λ region at each tasks has are.
    lies_by_source (g.G.ChunkGridTraits.dimensions c.args.source.now) (g.H.ChunkGridTraits.dimensions c.args.target.now) region at each has tasks are
