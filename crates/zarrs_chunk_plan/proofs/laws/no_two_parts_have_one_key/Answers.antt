use Rattle.zarrs_chunk_plan.proofs.Plans.{keys_differ}
use Rattle.zarrs_chunk_plan.proofs.laws.no_two_parts_have_one_key.Goals as goal

pub returns : goal.returns
returns g c = λ parts plan. keys_differ plan (g.met.E.ChunkKeyEncodingTraits.exact c.args.encoding.now)
