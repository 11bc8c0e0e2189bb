use Rattle.std.proofs.Common.{◌∙◌, ap, length, subst, sym}
use Rattle.std.proofs.lemmas.List.{length-map, length-replicate}
use Rattle.zarrs_chunk_base.specs.ArraySubset.{Box}
use Rattle.zarrs_chunk_base.specs.Dimension.{Dimension, array_sizes}
use Rattle.zarrs_chunk_plan.proofs.MovedBoxes.{within_starts}
use Rattle.zarrs_chunk_tasks.specs.seen.Counts.{AreGrouped}
use Rattle.zarrs_chunk_tasks.proofs.GroupCounts.{are_grouped}
use Rattle.zarrs_chunk_tasks.proofs.tried.tried_sizes.Goals as goal

pub groups_with-requires-clause-each : goal.groups_with-requires-clause-each
groups_with-requires-clause-each g c =
    let ds = g.H.ChunkGridTraits.dimensions c.args.copied.now.target.now in
    let ones = (c.in_ok-one_each.ensures {u = tt}).items_if_clones_equal (λ y same. same) in
    ap length (c.deref.ensures.value ∙ ones) ∙ length-replicate _ _ ∙ ap length c.start.ensures.value
    ∙ within_starts _ _ (array_sizes ds) c.requires.lies ∙ length-map ds (λ (d : Dimension). d.array_size)

pub sizes_of_groups-requires-clause-grouped : goal.sizes_of_groups-requires-clause-grouped
sizes_of_groups-requires-clause-grouped g c =
    let ds = g.H.ChunkGridTraits.dimensions c.args.copied.now.target.now in
    let copied = c.args.copied.now in
    let source = g.G.ChunkGridTraits.dimensions copied.source.now in
    let found = rw c.in-Some.is at (c.in_ok-grouped.ensures {u = tt}).some in
    let ones = (c.in_ok-one_each.ensures {u = tt}).items_if_clones_equal (λ y same. same) in
    let many =
    ap length (c.deref.ensures.value ∙ ones) ∙ length-replicate _ _ ∙ ap length c.start.ensures.value
    ∙ within_starts _ _ (array_sizes ds) c.requires.lies ∙ length-map ds (λ (d : Dimension). d.array_size)
    in
    subst (λ start. AreGrouped g.H.ChunkGridTraits.dimensions source ds copied.first.now start c.in-Some.grouped) (ap (λ (b : Box). b.start) (sym found.same_elements))
    (are_grouped g.H.ChunkGridTraits.dimensions _ _ c.args.elements.now _ _ _ _ c.in-Some.grouped found (g.met.H.ChunkGridTraits.chained c.args.copied.now.target.now)
    c.groups_with.ensures.is_box c.requires.lies many c.requires.copied)
