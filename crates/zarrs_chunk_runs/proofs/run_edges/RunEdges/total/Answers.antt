use Rattle.std.proofs.Common.{map, ◌∙◌}
use Rattle.zarrs_chunk_runs.specs.Runs.{run_of}
use Rattle.zarrs_chunk_runs.proofs.Places.{last_end}
use Rattle.zarrs_chunk_runs.proofs.run_edges.RunEdges.total.Goals as goal

pub returns : goal.returns
returns c = c.last_or_zero.ensures ∙ rw (c.deref.ensures.value, c.args.self.now.summed) (last_end (map run_of c.args.self.now.runs.items))
