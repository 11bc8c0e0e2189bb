use Rattle.zarrs_chunk_tasks.proofs.WalkedTasks.{all_to_come, tasks_of}
use Rattle.zarrs_chunk_tasks.proofs.laws.the_walk_gives_the_tasks.Goals as goal

pub returns-clause-to_come : goal.returns-clause-to_come
returns-clause-to_come g c = λ walk tasks can drains. all_to_come g.G.ChunkGridTraits.dimensions walk tasks can drains

pub returns-clause-tasks : goal.returns-clause-tasks
returns-clause-tasks g c = λ each elements first at walk tasks planned are.
    tasks_of g.G.ChunkGridTraits.dimensions c.args.grid.now each elements first at walk tasks planned are
