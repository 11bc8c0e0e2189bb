use Rattle.std.proofs.Common.{◌≡◌, [], ◌∷◌, ◌∙◌, inl, length, map, arith}
use Rattle.std.proofs.lemmas.List.{length-append, length-map}
use Rattle.zarrs_chunk_axes.proofs.EachSoFar.{at_end}
use Rattle.zarrs_chunk_axes.proofs.PairsFound.{none_yet, one_more}
use Rattle.zarrs_chunk_axes.proofs.axis_grid.find_each.Goals as goal

pub returns-in_default : goal.returns-in_default
returns-in_default g c =
    let (axes, numbers) = c.in-Some.ensures.steps in
    let (before, _, _) = rw (axes, numbers) at c.loop-axis.invariant in
    before.so_far.none (inl c.in_default.ensures)

pub loop-axis-init : goal.loop-axis-init
loop-axis-init g c =
    let axes : c.into_iter-axis-iterator.result.a.rest.now ≡ c.args.axes.now = cc in
    let numbers : c.into_iter-axis-iterator.result.b.rest.now ≡ c.args.numbers.now = cc in
    let firsts = c.requires.empty in
    let seconds = c.requires.also_empty in
    rw (axes, numbers, firsts, seconds) (
      none_yet _ _ _ _ (length-map c.args.axes.now g.A.Axis.dimension ∙ c.requires.lengths),
      grind (arith, c.requires.room),
      grind (arith, c.requires.also_room),
    )

pub loop-axis-preserved : goal.loop-axis-preserved
loop-axis-preserved g c =
    let (axes, numbers) = c.in-Some.ensures.steps in
    let (before, room, other_room) = rw (axes, numbers) at c.loop-axis.invariant in
    let capacity = c.push_reserved.ensures.capacity in
    let other_capacity = c.push_reserved-in-loop-axis.ensures.capacity in
    rw (c.push_reserved.ensures.items, c.push_reserved-in-loop-axis.ensures.items) (
      one_more _ _ _ _ _ _ _ _ _ _ _ _ before c.in-Some-look_up.ensures,
      omega (arith, length-append c.loop-axis.firsts.items (c.in-Some-look_up.first ∷ [])),
      omega (arith, length-append c.loop-axis.seconds.items (c.in-Some-look_up.second ∷ [])),
    )

pub returns : goal.returns
returns g c =
    let (before, _, _) = c.loop-axis.invariant in
    let none : length (map g.A.Axis.dimension c.loop-axis.axis-iterator.a.rest.now) ≡ 0 =
    grind (arith, c.in-None.ensures.steps, length-map c.loop-axis.axis-iterator.a.rest.now g.A.Axis.dimension, before.so_far.lengths) in
    record {
      pairs = before.pairs;
      each = at_end _ _ _ _ _ _ _ none before.so_far;
      firsts_are = before.firsts_are;
      seconds_are = before.seconds_are;
    }
