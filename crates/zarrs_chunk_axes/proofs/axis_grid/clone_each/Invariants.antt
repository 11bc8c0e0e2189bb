use Rattle.std.proofs.Common.{◌≡◌, map, take}
use Rattle.zarrs_chunk_axes.proofs.axis_grid.clone_each.Given as goal

-- the copies so far have the dimensions so far, and the edges
abbrev pub invariant-loop-axis : goal.invariant-loop-axis
invariant-loop-axis g l =
    (map g.A.Axis.dimension l.copies.items ≡ map g.A.Axis.dimension (take l.axis-index l.axes))
    × (map g.A.Axis.edges l.copies.items ≡ map g.A.Axis.edges (take l.axis-index l.axes))
