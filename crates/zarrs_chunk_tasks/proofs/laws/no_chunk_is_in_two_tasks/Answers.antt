use Rattle.zarrs_chunk_tasks.proofs.TaskLaws.{no_chunk_twice}
use Rattle.zarrs_chunk_tasks.proofs.laws.no_chunk_is_in_two_tasks.Goals as goal

pub returns-clause-by_target : goal.returns-clause-by_target
returns-clause-by_target g c = λ region at each tasks are.
    no_chunk_twice (g.met.H.ChunkGridTraits.chained c.args.target.now) are (λ task. task.target) (λ group task is. is.target)

pub returns-clause-by_source : goal.returns-clause-by_source
returns-clause-by_source g c = λ region at each tasks are.
    no_chunk_twice (g.met.G.ChunkGridTraits.chained c.args.source.now) are (λ task. task.source) (λ group task is. is.source)
