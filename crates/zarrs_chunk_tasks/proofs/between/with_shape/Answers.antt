use Rattle.std.proofs.Common.{◌∙◌}
use Rattle.zarrs_chunk_tasks.proofs.TwoStages.{one_each}
use Rattle.zarrs_chunk_tasks.proofs.between.with_shape.Goals as goal

pub both_stages-requires-clause-long : goal.both_stages-requires-clause-long
both_stages-requires-clause-long g c = one_each c.args.edges.now c.args.number c.in_ok-chunks.chunks.items (c.in_ok-chunks.ensures {u = tt}) ∙ c.requires.long

pub returns : goal.returns
returns g c = record {
  shape = c.in_ok-chunks.chunks.items;
  is_shape = c.in_ok-chunks.ensures {u = tt};
  found = c.in_ok-found.found;
  finds = rw c.cost_of.ensures at (c.in_ok-found.ensures {u = tt});
  keeps = c.with_found.ensures;
}
