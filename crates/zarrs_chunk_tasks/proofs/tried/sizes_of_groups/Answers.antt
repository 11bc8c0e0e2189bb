use Rattle.std.proofs.Common.{◌∙◌, refl, sym}
use Rattle.std.proofs.lemmas.Bool.{true≢false}
use Rattle.zarrs_chunk_tasks.specs.seen.Choices.{rows_of}
use Rattle.zarrs_chunk_tasks.specs.seen.Sizes.{sides}
use Rattle.zarrs_chunk_tasks.proofs.TriedSizes.{are_tried_over, fewer_are, grouped_many, have_sizes}
use Rattle.zarrs_chunk_tasks.proofs.tried.sizes_of_groups.Goals as goal

pub returns-then-is_exact : goal.returns-then-is_exact
returns-then-is_exact g c =
    let copied = c.args.copied.now in
    let grouped = c.args.grouped.now in
    let source = g.G.ChunkGridTraits.dimensions copied.source.now in
    let target = g.H.ChunkGridTraits.dimensions copied.target.now in
    let last = c.requires.last in
    let many = grouped_many g.H.ChunkGridTraits.dimensions source target copied.first.now grouped.elements.now.start grouped c.requires.grouped in
    are_tried_over source target copied.first.now grouped.elements.now grouped.cover c.in_ok-rows.rows.items _ c.requires.grouped.some c.requires.cover
    (rw last at many) (rw last at (c.in_ok-rows.ensures {u = tt})) refl (rw (c.deref.ensures.value, last) at c.are_few-is_exact.ensures)

pub thinned-requires-clause-some : goal.thinned-requires-clause-some
thinned-requires-clause-some g c = have_sizes c.are_few-is_exact.result _ _ (c.in_ok-rows.ensures {u = tt})

pub returns : goal.returns
returns g c =
    let copied = c.args.copied.now in
    let grouped = c.args.grouped.now in
    let source = g.G.ChunkGridTraits.dimensions copied.source.now in
    let target = g.H.ChunkGridTraits.dimensions copied.target.now in
    let last = c.requires.last in
    let many = grouped_many g.H.ChunkGridTraits.dimensions source target copied.first.now grouped.elements.now.start grouped c.requires.grouped in
    let all = sides source target copied.first.now grouped.elements.now.start grouped.elements.now.shape grouped.cover.start grouped.last.items in
    let are = fewer_are c.are_few-is_exact.result all (rows_of c.in_ok-rows.rows.items) (rows_of c.in_ok-thinned.field-0.items) (λ true. true≢false (sym true ∙ c.if-is_exact.false))
    (c.in_ok-rows.ensures {u = tt}) (c.in_ok-thinned.ensures {u = tt}).thinned
    in
    are_tried_over source target copied.first.now grouped.elements.now grouped.cover c.in_ok-thinned.field-0.items _ c.requires.grouped.some c.requires.cover
    (rw last at many) (rw last at are) refl (rw (c.deref.ensures.value, last) at c.are_few-is_exact.ensures)
