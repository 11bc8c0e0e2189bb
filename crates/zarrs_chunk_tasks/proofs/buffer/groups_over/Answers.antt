use Rattle.std.proofs.Common.{⊎_elim}
use Rattle.zarrs_chunk_base.specs.ArraySubset.{IsEmptyBox}
use Rattle.zarrs_chunk_plan.proofs.Plans.{empty_or_some, not_empty_if_inside}
use Rattle.zarrs_chunk_tasks.proofs.GroupBoxes.{groups_named}
use Rattle.zarrs_chunk_tasks.proofs.buffer.groups_over.Goals as goal

pub returns-in_default-clause-groups : goal.returns-in_default-clause-groups
returns-in_default-clause-groups g c =
    let cover = c.args.cover.now in
    let elements = c.args.elements.now in
    let no_chunks : IsEmptyBox cover = rw c.in_default.is at (c.in_ok-last.ensures {u = tt}) in
    let none : IsEmptyBox elements =
    ⊎_elim (λ (empty : IsEmptyBox elements). empty) (λ (some : ¬ IsEmptyBox elements). absurd ((c.requires.cover some).some no_chunks))
    (empty_or_some elements.shape)
    in
    rw (c.in_ok-clone.ensures {u = tt}) (λ group. (
      λ inside. absurd (not_empty_if_inside _ _ group inside no_chunks),
      λ (index, inside, _). absurd (not_empty_if_inside _ _ index inside none),
    ))

pub returns-clause-groups : goal.returns-clause-groups
returns-clause-groups g c =
    let ds = g.G.ChunkGridTraits.dimensions c.args.grid.now in
    let each = c.args.each.now in
    let cover = c.args.cover.now in
    let elements = c.args.elements.now in
    let (some_chunks, last_is) = rw c.in-Some.is at (c.in_ok-last.ensures {u = tt}) in
    let some : ¬ IsEmptyBox elements = λ empty. some_chunks (c.requires.empty empty) in
    let first = rw c.start.ensures.value at (c.in_ok-first.ensures {u = tt}) in
    let last = rw (c.deref.ensures.value, last_is) at (c.in_ok-last-2.ensures {u = tt}) in
    let counts = rw (c.deref-2.ensures.value, c.deref-3.ensures.value, first, last) at (c.in_ok-counts.ensures {u = tt}) in
    rw (c.in_ok-made_box.ensures.value, first, counts)
    (groups_named ds each (g.met.G.ChunkGridTraits.chained c.args.grid.now) c.requires.lengths elements cover c.is_a_box.ensures (c.requires.cover some) some)
