use Rattle.zarrs_chunk_plan.proofs.Plans.{covers_some}
use Rattle.zarrs_chunk_plan.proofs.SomePlan.{plan_of_none, plan_over}
use Rattle.zarrs_chunk_plan.proofs.laws.there_is_a_plan.Goals as goal

pub returns-clause-of_a_read : goal.returns-clause-of_a_read
returns-clause-of_a_read g c = λ elements cover is_box some is.
    let chains = g.met.G.ChunkGridTraits.chained c.args.source.now.grid in
    plan_over _ _ chains (g.met.E.ChunkKeyEncodingTraits.has_key c.args.source.now.encoding) elements cover is_box
    (covers_some _ elements cover chains is_box some is)

pub returns-clause-of_nothing : goal.returns-clause-of_nothing
returns-clause-of_nothing g c = plan_of_none _ _
