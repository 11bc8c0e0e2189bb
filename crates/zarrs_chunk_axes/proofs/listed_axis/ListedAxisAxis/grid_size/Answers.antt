use Rattle.std.proofs.Common.{arith}
use Rattle.zarrs_chunk_axes.proofs.ListedAxes.{length_between}
use Rattle.zarrs_chunk_axes.proofs.listed_axis.ListedAxisAxis.grid_size.Goals as goal

pub returns : goal.returns
returns c = let lengths = length_between 0 c.args.self.now.ends.items in omega (arith, c.len.ensures)
