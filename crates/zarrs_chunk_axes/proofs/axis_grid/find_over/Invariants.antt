use Rattle.std.proofs.Common.{◌+◌, ◌≤◌, length, map}
use Rattle.std.specs.Vec.{vec_capacity}
use Rattle.zarrs_chunk_axes.proofs.OverBox.{OverSoFar}
use Rattle.zarrs_chunk_axes.proofs.axis_grid.find_over.Given as goal

-- what the rests answer decides what all answer, and there is room for it
abbrev pub invariant-loop-axis : goal.invariant-loop-axis
invariant-loop-axis g l =
    let rest = l.axis-iterator.a.rest.now in
    let dimensions = map g.A.Axis.dimension in
    OverSoFar (dimensions l.axes) l.starts l.sizes (dimensions rest) l.axis-iterator.b.a.rest.now l.axis-iterator.b.b.rest.now
    l.firsts.items l.counts.items
    × (length l.firsts.items + length rest ≤ vec_capacity l.firsts)
    × (length l.counts.items + length rest ≤ vec_capacity l.counts)
