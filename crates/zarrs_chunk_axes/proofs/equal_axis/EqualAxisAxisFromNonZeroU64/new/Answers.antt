use Rattle.zarrs_chunk_axes.specs.seen.EqualAxis.{equal_edges}
use Rattle.zarrs_chunk_axes.proofs.equal_axis.EqualAxisAxisFromNonZeroU64.new.Goals as goal

pub returns-clause-made : goal.returns-clause-made
returns-clause-made c = equal_edges _ _ c.args.edge.now.ok
