use Rattle.std.proofs.Common.{length, map}
use Rattle.std.specs.Int.NonZero.{non_zero_u64_get}
use Rattle.zarrs_chunk_plan.proofs.MovedBoxes.{lies_some}
use Rattle.zarrs_chunk_tasks.proofs.GroupCounts.{are_grouped, none_are}
use Rattle.zarrs_chunk_tasks.proofs.counts.counts_of.Goals as goal

pub returns-in_default : goal.returns-in_default
returns-in_default g c =
    let ds = g.K.ChunkGridTraits.dimensions c.args.grid.now in
    let elements = c.args.elements.now in
    let none = rw c.in_default.is at (c.in_ok-grouped.ensures {u = tt}).none in
    let (groups, is_box, named) = (c.in_ok-grouped.ensures {u = tt}).named in
    rw ((c.in_ok-vec.ensures {u = tt}).items_if_clones_equal (λ y same. same))
    (none_are _ _ ds (map non_zero_u64_get c.args.each.now) elements groups _ _ c.of_no_tasks.result (length c.args.each.now) none c.requires.each
    (lies_some ds elements c.requires.lies none) is_box named c.of_no_tasks.ensures)

pub counts_of_some-requires : goal.counts_of_some-requires
counts_of_some-requires g c =
    let found = rw c.in-Some.is at (c.in_ok-grouped.ensures {u = tt}).some in
    are_grouped g.K.ChunkGridTraits.dimensions c.args.grid.now c.args.each.now c.args.elements.now _ _ _ _ c.in-Some.grouped found
    (g.met.K.ChunkGridTraits.chained c.args.grid.now) (c.groups_with.ensures.is_box) c.requires.lies c.requires.each c.requires.copied
