use Rattle.std.proofs.Common.{◌≡◌, [], ◌∷◌, length, map, inl, inr, refl, arith}
use Rattle.std.proofs.lemmas.List.{length-append, length-map}
use Rattle.zarrs_chunk_base.specs.Dimension.{Holds}
use Rattle.zarrs_chunk_base.proofs.InEach.{turned}
use Rattle.zarrs_chunk_axes.specs.seen.EqualOr.{equal_or, equal_or_edges}
use Rattle.zarrs_chunk_axes.specs.seen.RunsAxis.{runs_dimension, runs_edges}
use Rattle.zarrs_chunk_axes.proofs.Searched.{at_end}
use Rattle.zarrs_chunk_axes.proofs.EachAxis.{none_in_each}
use Rattle.zarrs_chunk_axes.proofs.EachSoFar as each
use Rattle.zarrs_chunk_axes.proofs.axis_grid.counted.find_chunks.Goals as goal

pub returns-in_default-clause-found : goal.returns-in_default-clause-found
returns-in_default-clause-found c =
    let (axes, numbers) = c.in-Some.ensures.steps in
    let (so_far, _, _) = rw (axes, numbers) at c.loop-axis.invariant in
    λ chunk box. none_in_each _ (λ d i c. Holds d c i) (λ d i c absent. absent c) _ _ chunk (so_far.none (inl c.in_default.ensures.found))
    (turned Holds _ chunk _ box)

pub returns-in_default-clause-searched : goal.returns-in_default-clause-searched
returns-in_default-clause-searched c =
    let (axes, numbers) = c.in-Some.ensures.steps in
    let (_, searched, _) = rw (axes, numbers) at c.loop-axis.invariant in
    let ensures = c.in_default.ensures in
    searched _ (_, ensures.searched, inl (ensures.found, refl))

pub loop-axis-preserved : goal.loop-axis-preserved
loop-axis-preserved c =
    let (axes, numbers) = c.in-Some.ensures.steps in
    let (so_far, searched, room) = rw (axes, numbers) at c.loop-axis.invariant in
    let ensures = c.in-Some-find_chunk.ensures in
    rw c.push_reserved.ensures.items (
      each.one_more _ _ _ _ _ _ c.in-Some-find_chunk.number _ _ _ so_far ensures.found,
      (λ next rest. searched next (_, ensures.searched, inr (c.in-Some-find_chunk.number, ensures.found, rest))),
      (let capacity = c.push_reserved.ensures.capacity in omega (arith, length-append c.loop-axis.chunk.items (c.in-Some-find_chunk.number ∷ []))),
    )

pub returns-clause-found : goal.returns-clause-found
returns-clause-found c =
    let (so_far, _, _) = c.loop-axis.invariant in
    let none : length (map (equal_or runs_dimension) c.loop-axis.axis-iterator.a.rest.now) ≡ 0 =
    grind (arith, c.in-None.ensures.steps, length-map c.loop-axis.axis-iterator.a.rest.now (equal_or runs_dimension), so_far.lengths) in
    turned (λ d i c. Holds d c i) _ _ _ (each.at_end _ _ _ _ _ _ _ none so_far)

pub returns-clause-searched : goal.returns-clause-searched
returns-clause-searched c =
    let (so_far, searched, _) = c.loop-axis.invariant in
    let rest = c.loop-axis.axis-iterator.a.rest.now in
    let dimensions = length-map rest (equal_or runs_dimension) in
    let edges = length-map rest (equal_or_edges runs_edges) in
    let none : length rest ≡ 0 = grind (arith, c.in-None.ensures.steps, dimensions, so_far.lengths) in
    searched _ (at_end _ _ _ _ (omega (arith, dimensions)) (omega (arith, edges)) (omega (arith, dimensions, so_far.lengths)))
