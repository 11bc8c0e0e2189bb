use Rattle.zarrs_chunk_plan.proofs.Plans.{has_place, no_other_part, some_part}
use Rattle.zarrs_chunk_plan.proofs.laws.each_element_lies_in_one_part.Goals as goal

pub returns-clause-one : goal.returns-clause-one
returns-clause-one g c = λ parts plan. some_part plan

pub returns-clause-no_other : goal.returns-clause-no_other
returns-clause-no_other g c = λ parts plan. no_other_part plan (g.met.G.ChunkGridTraits.chained c.args.grid.now)

pub returns-clause-place : goal.returns-clause-place
returns-clause-place g c = λ chunk part index place is has. has_place is has
