use Rattle.std.proofs.Common.{◌≡◌, map, take}
use Rattle.std.specs.List.{AllByRecursion}
use Rattle.zarrs_chunk_axes.proofs.axis_grid.configurations_of.Given as goal

-- the configurations so far tell the edges so far, and are as they are written
abbrev pub invariant-loop-axis : goal.invariant-loop-axis
invariant-loop-axis g l =
    (map g.A.AxisFrom.tells l.configurations.items ≡ map g.A.Axis.edges (take l.axis-index l.axes))
    × AllByRecursion g.A.AxisFrom.is_written l.configurations.items
