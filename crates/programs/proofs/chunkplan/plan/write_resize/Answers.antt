use Rattle.programs.proofs.chunkplan.Common.{changes_to_come, asked_are_used}
use Rattle.programs.specs.chunkplan.seen.Opened.{dimensions_in, dimensions_of}
use Rattle.programs.proofs.chunkplan.Steps.{text_follows}
use Rattle.programs.proofs.chunkplan.plan.write_resize.Goals as goal

pub write_changes-requires-clause-can : goal.write_changes-requires-clause-can
write_changes-requires-clause-can g c = c.in-Ok.ensures.can_change c.requires.resized

pub write_changes-requires-clause-used : goal.write_changes-requires-clause-used
write_changes-requires-clause-used g c =
    let about = c.in-Ok.ensures.about in
    rw (about.same_before, about.same_after)
    (asked_are_used (dimensions_of c.args.array.now) (dimensions_in c.args.after.now) c.args.include_unchanged
    (changes_to_come c.in-Ok.walk) (c.in-Ok.ensures.changed c.requires.resized))

pub write_changes-requires-clause-fit : goal.write_changes-requires-clause-fit
write_changes-requires-clause-fit g c =
    let about = c.in-Ok.ensures.about in
    rw about.same_before (rw c.array_shape.ensures at c.all_fit.ensures)

pub write_changes-requires-clause-also_fit : goal.write_changes-requires-clause-also_fit
write_changes-requires-clause-also_fit g c =
    let about = c.in-Ok.ensures.about in
    rw about.same_after (rw c.array_shape-2.ensures at c.all_fit-2.ensures)

pub returns-in-Ok : goal.returns-in-Ok
returns-in-Ok g c =
    let walk = c.in-Ok.walk in
    let about = c.in-Ok.ensures.about in
    text_follows _ _ (λ _. ⊥)
    (λ text (changes, are, lines). (
      changes,
      record {
        chunks = changes_to_come walk;
        are_chunks = c.in-Ok.ensures.changed c.requires.resized;
        are_changes = rw (about.same_before, about.same_after, about.same_encoding) at are;
      },
      lines,
    ))
    _ _ _ c.write_changes.ensures
