use Rattle.std.proofs.Common.{◌≡◌, ◌+◌, ◌-◌, ◌≤◌, [], ◌∷◌, ◌∙◌, length, map, arith}
use Rattle.std.proofs.lemmas.List.{length-append, length-map}
use Rattle.zarrs_chunk_base.specs.Dimension.{Holds}
use Rattle.zarrs_chunk_base.specs.Greatest.{greatest}
use Rattle.zarrs_chunk_axes.proofs.OverBox.{at_end, none_yet, one_more}
use Rattle.zarrs_chunk_axes.proofs.axis_grid.find_over.Goals as goal

pub loop-axis-init : goal.loop-axis-init
loop-axis-init g c =
    let axes : c.into_iter-axis-iterator.result.a.rest.now ≡ c.args.axes.now = cc in
    let starts : c.into_iter-axis-iterator.result.b.a.rest.now ≡ c.args.starts.now = cc in
    let sizes : c.into_iter-axis-iterator.result.b.b.rest.now ≡ c.args.sizes.now = cc in
    let firsts = c.requires.empty in
    let counts = c.requires.also_empty in
    rw (axes, starts, sizes, firsts, counts) (
      none_yet _ _ _ (length-map c.args.axes.now g.A.Axis.dimension ∙ c.requires.lengths) c.requires.sizes c.requires.fits,
      grind (arith, c.requires.room),
      grind (arith, c.requires.also_room),
    )

pub loop-axis-preserved : goal.loop-axis-preserved
loop-axis-preserved g c =
    let (axes, (starts, sizes)) = c.in-Some.ensures.steps in
    let (before, room, other_room) = rw (axes, starts, sizes) at c.loop-axis.invariant in
    let capacity = c.push_reserved.ensures.capacity in
    let other_capacity = c.push_reserved-in-loop-axis.ensures.capacity in
    let s = c.in-Some.start.now in
    let n = c.in-Some.size.now in
    let d = g.A.Axis.dimension c.in-Some.axis.now in
    let fits : s + n ≤ greatest = before.fits.0 in
    let end : c.saturating_add.result ≡ s + (n - 1) = grind (arith, fits, c.saturating_add.ensures, c.saturating_sub.ensures) in
    let last : Holds d c.in-Some-chunk_of-2.last (s + (n - 1)) = rw end at c.in-Some-chunk_of-2.ensures in
    rw (c.push_reserved.ensures.items, c.push_reserved-in-loop-axis.ensures.items) (
      one_more _ _ _ d s n c.in-Some-chunk_of.first c.in-Some-chunk_of-2.last c.saturating_add-in-loop-axis.result _ _ _ _ _ before
          c.in-Some-chunk_of.ensures last
          (λ below. grind (arith, below, c.saturating_add-in-loop-axis.ensures, c.saturating_sub-in-loop-axis.ensures)),
      omega (arith, length-append c.loop-axis.firsts.items (c.in-Some-chunk_of.first ∷ [])),
      omega (arith, length-append c.loop-axis.counts.items (c.saturating_add-in-loop-axis.result ∷ [])),
    )

pub returns : goal.returns
returns g c =
    let (before, _, _) = c.loop-axis.invariant in
    let none : length (map g.A.Axis.dimension c.loop-axis.axis-iterator.a.rest.now) ≡ 0 =
    grind (arith, c.in-None.ensures.steps, length-map c.loop-axis.axis-iterator.a.rest.now g.A.Axis.dimension, before.first.lengths, before.lengths) in
    at_end _ _ _ _ _ _ _ _ none before
