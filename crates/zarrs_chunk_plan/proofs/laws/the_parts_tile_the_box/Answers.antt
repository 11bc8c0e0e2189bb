use Rattle.zarrs_chunk_plan.proofs.Plans.{none_empty, tiles_all, tiles_apart}
use Rattle.zarrs_chunk_plan.proofs.laws.the_parts_tile_the_box.Goals as goal

pub returns-clause-all : goal.returns-clause-all
returns-clause-all g c = λ parts plan. tiles_all plan c.is_a_box.ensures.lengths

pub returns-clause-apart : goal.returns-clause-apart
returns-clause-apart g c = λ parts plan. tiles_apart plan (g.met.G.ChunkGridTraits.chained c.args.grid.now)

pub returns-clause-not_empty : goal.returns-clause-not_empty
returns-clause-not_empty g c = λ parts plan. none_empty plan
