use Rattle.std.proofs.Common.{sym, true≢false, arith}
use Rattle.zarrs_chunk_axes.proofs.Bounds.{IsAxisInBounds}
use Rattle.std.proofs.lemmas.Slice.Zip.{AllZip-long}
use Rattle.zarrs_chunk_axes.proofs.axis_grid.are_in_bounds.Goals as goal

pub returns-then-indices-axes : goal.returns-then-indices-axes
returns-then-indices-axes g c =
    (λ t. absurd (true≢false (sym t)), λ all. absurd (omega (arith, AllZip-long (IsAxisInBounds g.A.Axis.dimension g.A.Axis.edges) _ _ all)))
