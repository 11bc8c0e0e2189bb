use Rattle.std.proofs.Common.{◌≤◌, ◌∙◌, arith, length, map, refl, subst}
use Rattle.zarrs_chunk_plan.specs.Counts.{product}
use Rattle.zarrs_chunk_tasks.specs.Edges.{most_shapes}
use Rattle.zarrs_chunk_tasks.specs.seen.Choices.{rows_of}
use Rattle.zarrs_chunk_tasks.proofs.ThinnedRows.{still_some}
use Rattle.zarrs_chunk_tasks.proofs.TriedEdges.{all_tried, as_many, as_many_numbers, as_many_rows, edges_there, few_along, few_rows, numbers_there, only_tried, shape_of_thinned, some_rows}
use Rattle.zarrs_chunk_tasks.proofs.edges.tried_edges.Goals as goal

pub returns-then-are_all_tried-clause-long : goal.returns-then-are_all_tried-clause-long
returns-then-are_all_tried-clause-long g c =
    let source = g.G.ChunkGridTraits.dimensions c.args.source.now in
    let target = g.H.ChunkGridTraits.dimensions c.args.target.now in
    let is = rw c.deref.ensures.value at (c.in_ok-rows.ensures {u = tt}) in
    as_many source target c.args.region.now c.args.moved.now.start c.requires.some c.in_ok-units.units.items (c.in_ok-units.ensures {u = tt})
    c.in_ok-rows.rows.items is

pub returns-then-are_all_tried-clause-some : goal.returns-then-are_all_tried-clause-some
returns-then-are_all_tried-clause-some g c =
    let is = rw c.deref.ensures.value at (c.in_ok-rows.ensures {u = tt}) in some_rows _ _ is

pub returns-then-are_all_tried-clause-all : goal.returns-then-are_all_tried-clause-all
returns-then-are_all_tried-clause-all g c = λ are_all.
    let source = g.G.ChunkGridTraits.dimensions c.args.source.now in
    let target = g.H.ChunkGridTraits.dimensions c.args.target.now in
    let is = rw c.deref.ensures.value at (c.in_ok-rows.ensures {u = tt}) in
    let few = rw c.deref-2.ensures.value at ((c.if-are_all_tried.ensures {u = tt}).few refl) in
    all_tried source target c.args.region.now c.args.moved.now.start c.requires.some c.in_ok-units.units.items (c.in_ok-units.ensures {u = tt})
    c.in_ok-rows.rows.items is few

pub returns-then-are_all_tried-clause-tried : goal.returns-then-are_all_tried-clause-tried
returns-then-are_all_tried-clause-tried g c = λ shape has.
    let source = g.G.ChunkGridTraits.dimensions c.args.source.now in
    let target = g.H.ChunkGridTraits.dimensions c.args.target.now in
    let is = rw c.deref.ensures.value at (c.in_ok-rows.ensures {u = tt}) in
    only_tried source target c.args.region.now c.args.moved.now.start c.requires.some c.in_ok-units.units.items (c.in_ok-units.ensures {u = tt})
    c.in_ok-rows.rows.items is shape has

pub returns-then-are_all_tried-clause-are_all : goal.returns-then-are_all_tried-clause-are_all
returns-then-are_all_tried-clause-are_all g c = λ _. refl

pub returns-then-are_all_tried-clause-few : goal.returns-then-are_all_tried-clause-few
returns-then-are_all_tried-clause-few g c = rw c.deref-3.ensures.value at ((c.if-are_all_tried.ensures {u = tt}).few_shapes refl)

pub thinned-requires-clause-some : goal.thinned-requires-clause-some
thinned-requires-clause-some g c =
    let is = rw c.deref-4.ensures.value at (c.in_ok-rows-2.ensures {u = tt}) in edges_there _ (some_rows _ _ is)

pub returns-clause-long : goal.returns-clause-long
returns-clause-long g c =
    let source = g.G.ChunkGridTraits.dimensions c.args.source.now in
    let target = g.H.ChunkGridTraits.dimensions c.args.target.now in
    let is = rw c.deref-4.ensures.value at (c.in_ok-rows-2.ensures {u = tt}) in
    as_many_rows c.in_ok-rows-2.rows.items _ (c.in_ok-thinned.ensures {u = tt}).thinned
    ∙ as_many source target c.args.region.now c.args.moved.now.start c.requires.some c.in_ok-units.units.items (c.in_ok-units.ensures {u = tt})
    c.in_ok-rows-2.rows.items is

pub returns-clause-tried : goal.returns-clause-tried
returns-clause-tried g c = λ shape has.
    let source = g.G.ChunkGridTraits.dimensions c.args.source.now in
    let target = g.H.ChunkGridTraits.dimensions c.args.target.now in
    let is = rw c.deref-4.ensures.value at (c.in_ok-rows-2.ensures {u = tt}) in
    only_tried source target c.args.region.now c.args.moved.now.start c.requires.some c.in_ok-units.units.items (c.in_ok-units.ensures {u = tt})
    c.in_ok-rows-2.rows.items is shape
    (shape_of_thinned c.in_ok-rows-2.rows.items c.in_ok-thinned.field-0.items shape (c.in_ok-thinned.ensures {u = tt}).thinned has)

pub returns-clause-some : goal.returns-clause-some
returns-clause-some g c =
    let is = rw c.deref-4.ensures.value at (c.in_ok-rows-2.ensures {u = tt}) in
    numbers_there _ (still_some (rows_of c.in_ok-rows-2.rows.items) _ (c.in_ok-thinned.ensures {u = tt}).thinned (edges_there _ (some_rows _ _ is)))

pub returns-clause-few : goal.returns-clause-few
returns-clause-few g c = omega (arith, (c.in_ok-thinned.ensures {u = tt}).few)

pub returns-clause-are_all : goal.returns-clause-are_all
returns-clause-are_all g c = λ few.
    let source = g.G.ChunkGridTraits.dimensions c.args.source.now in
    let target = g.H.ChunkGridTraits.dimensions c.args.target.now in
    let is = rw c.deref.ensures.value at (c.in_ok-rows.ensures {u = tt}) in
    let rows = c.in_ok-rows.rows.items in
    let shapes : product (map length (rows_of rows)) ≤ most_shapes =
    subst (λ many. product many ≤ most_shapes) (as_many_numbers rows)
    (few_rows source target c.args.region.now c.args.moved.now.start c.requires.some c.in_ok-units.units.items (c.in_ok-units.ensures {u = tt}) rows is few)
    in
    (c.if-are_all_tried.ensures {u = tt}).all
    (rw c.deref-2.ensures.value
    (few_along source target c.args.region.now c.args.moved.now.start c.requires.some c.in_ok-units.units.items (c.in_ok-units.ensures {u = tt}) rows is few))
    (rw c.deref-3.ensures.value shapes)
