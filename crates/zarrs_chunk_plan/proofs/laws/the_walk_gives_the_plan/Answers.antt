use Rattle.zarrs_chunk_plan.proofs.SomePlan.{no_plan}
use Rattle.zarrs_chunk_plan.proofs.Walked.{all_to_come, plan_of}
use Rattle.zarrs_chunk_plan.proofs.laws.the_walk_gives_the_plan.Goals as goal

pub returns-clause-to_come : goal.returns-clause-to_come
returns-clause-to_come g c = λ walk. all_to_come g.G.ChunkGridTraits.dimensions g.E.ChunkKeyEncodingTraits.is_key walk

pub returns-clause-plan : goal.returns-clause-plan
returns-clause-plan g c = λ elements walk parts planned are.
    plan_of g.G.ChunkGridTraits.dimensions g.E.ChunkKeyEncodingTraits.is_key c.args.grid.now c.args.encoding.now elements planned.cover walk parts
    planned.about planned.is_cover planned.left are

pub returns-clause-none : goal.returns-clause-none
returns-clause-none g c = no_plan _ _
