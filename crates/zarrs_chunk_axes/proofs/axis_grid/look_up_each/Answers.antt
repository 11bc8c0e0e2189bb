use Rattle.std.proofs.Common.{◌≡◌, ◌<◌, [], ◌∷◌, ◌∙◌, drop, inl, length, map, arith}
use Rattle.std.proofs.lemmas.List.{drop_more, length-append, length-drop, length-map}
use Rattle.zarrs_chunk_axes.proofs.EachSoFar.{begins_with, one_more, at_end}
use Rattle.zarrs_chunk_axes.proofs.axis_grid.look_up_each.Goals as goal

pub returns-in_default-clause-found : goal.returns-in_default-clause-found
returns-in_default-clause-found g c =
    let place = c.loop-dimension.dimension in
    let within : place < length c.args.numbers.now = omega (arith, c.requires.lengths, c.loop-dimension-test.true) in
    let axes = begins_with c.args.axes.now place c.index-axes-dimension.result c.loop-dimension-test.true c.index-axes-dimension.is in
    let numbers = drop_more c.args.numbers.now place 0 within in
    let (so_far, _, _) = rw (axes, numbers) at c.loop-dimension.invariant in
    so_far.none (inl c.in_default.ensures)

pub loop-dimension-preserved : goal.loop-dimension-preserved
loop-dimension-preserved g c =
    let place = c.loop-dimension.dimension in
    let within : place < length c.args.numbers.now = omega (arith, c.requires.lengths, c.loop-dimension-test.true) in
    let axes = begins_with c.args.axes.now place c.index-axes-dimension.result c.loop-dimension-test.true c.index-axes-dimension.is in
    let numbers = drop_more c.args.numbers.now place 0 within in
    let (so_far, count, room) = rw (axes, numbers) at c.loop-dimension.invariant in
    rw c.push_reserved.ensures.items (
      one_more _ _ _ _ _ _ _ _ _ _ so_far c.in-Some.ensures,
      omega (arith, length-append c.loop-dimension.found.items (c.in-Some.value ∷ [])),
      c.push_reserved.ensures.capacity ∙ room,
    )

pub returns-clause-found : goal.returns-clause-found
returns-clause-found g c =
    let (so_far, _, _) = c.loop-dimension.invariant in
    let none : length (map g.A.Axis.dimension (drop c.loop-dimension.dimension c.args.axes.now)) ≡ 0 =
    simp (length-map, length-drop) (omega (arith, c.loop-dimension-test.false)) in
    at_end _ _ _ _ _ _ _ none so_far
