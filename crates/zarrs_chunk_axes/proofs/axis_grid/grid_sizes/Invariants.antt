use Rattle.std.proofs.Common.{◌≡◌, map, take}
use Rattle.zarrs_chunk_axes.proofs.axis_grid.grid_sizes.Given as goal

-- the sizes so far are those of the dimensions so far
abbrev pub invariant-loop-axis : goal.invariant-loop-axis
invariant-loop-axis g l = l.sizes.items ≡ map (λ d. d.grid_size) (map g.A.Axis.dimension (take l.axis-index l.axes))
