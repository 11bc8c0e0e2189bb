use Rattle.zarrs_chunk_axes.proofs.Ranges.{no_start}
use Rattle.zarrs_chunk_axes.proofs.axis.Axis.range_of.Goals as goal

pub returns-in_err-start : goal.returns-in_err-start
returns-in_err-start g c = rw c.from_residual.ensures (no_start _ _ c.in_err-start.ensures)
