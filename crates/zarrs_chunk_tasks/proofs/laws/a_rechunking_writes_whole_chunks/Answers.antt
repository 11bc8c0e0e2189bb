use Rattle.zarrs_chunk_tasks.proofs.TaskParts.{writes_whole}
use Rattle.zarrs_chunk_tasks.proofs.laws.a_rechunking_writes_whole_chunks.Goals as goal

pub returns : goal.returns
returns g c = λ each tasks. writes_whole _ _ each tasks (g.met.H.ChunkGridTraits.chained c.args.target.now.grid)
