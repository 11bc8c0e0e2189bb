use Rattle.std.proofs.Common.{◌≡◌, drop, length, map}
use Rattle.std.specs.Vec.{vec_capacity}
use Rattle.zarrs_chunk_axes.proofs.EachSoFar.{EachSoFar}
use Rattle.zarrs_chunk_axes.proofs.axis_grid.look_up_each.Given as goal

-- what the rests answer decides what all answer, and there is room for it
abbrev pub invariant-loop-dimension : goal.invariant-loop-dimension
invariant-loop-dimension g l =
    let dimensions = map g.A.Axis.dimension in
    EachSoFar g.L.LookUp.finds g.L.LookUp.misses (dimensions l.axes) l.numbers (dimensions (drop l.dimension l.axes))
    (drop l.dimension l.numbers) l.found.items
    × (length l.found.items ≡ l.dimension)
    × (vec_capacity l.found ≡ length l.axes)
