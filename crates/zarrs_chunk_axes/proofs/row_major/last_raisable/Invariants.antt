use Rattle.zarrs_chunk_axes.specs.seen.Counting.{AreFull}
use Rattle.zarrs_chunk_axes.proofs.row_major.last_raisable.Given as goal

-- the places that were looked at can't be raised
abbrev pub invariant-loop-place : goal.invariant-loop-place
invariant-loop-place l = AreFull l.shape l.numbers l.place l.width
