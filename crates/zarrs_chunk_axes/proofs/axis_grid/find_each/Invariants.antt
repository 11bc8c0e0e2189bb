use Rattle.std.proofs.Common.{◌+◌, ◌≤◌, length, map}
use Rattle.std.specs.Vec.{vec_capacity}
use Rattle.zarrs_chunk_axes.proofs.PairsFound.{PairsSoFar}
use Rattle.zarrs_chunk_axes.proofs.axis_grid.find_each.Given as goal

-- what the rests answer decides what all answer, and there is room for it
abbrev pub invariant-loop-axis : goal.invariant-loop-axis
invariant-loop-axis g l =
    let rest = l.axis-iterator.a.rest.now in
    let dimensions = map g.A.Axis.dimension in
    PairsSoFar g.L.LookUp.finds g.L.LookUp.misses (dimensions l.axes) l.numbers
    (dimensions rest) l.axis-iterator.b.rest.now l.firsts.items l.seconds.items
    × (length l.firsts.items + length rest ≤ vec_capacity l.firsts)
    × (length l.seconds.items + length rest ≤ vec_capacity l.seconds)
