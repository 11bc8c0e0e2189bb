use Rattle.zarrs_chunk_plan.proofs.Common.{◌∙◌, refl, sym}
use Rattle.zarrs_chunk_plan.proofs.resize.ChunksChanged.{becomes}
use Rattle.zarrs_chunk_plan.proofs.resize.chunk_changes.Changes.change_of.Goals as goal

pub returns-clause-change : goal.returns-clause-change
returns-clause-change g c = λ can.
    let chunk = c.args.chunk.items in
    let held = (rw (c.as_slice-numbers.ensures, c.deref.ensures.value) at c.in_ok-before.ensures) can.array_before (can.changed.before_it.those chunk) in
    let holds = (rw (c.as_slice-numbers.ensures, c.deref-2.ensures.value) at c.in_ok-after.ensures) can.array_after (can.changed.after_it.those chunk) in
    let below = rw (c.as_slice-numbers.ensures, c.deref-3.ensures.value) at c.are_below-kept.ensures in
    let kept = can.changed.kept.those chunk in
    record {
      numbers = refl;
      key = rw c.as_slice-numbers.ensures at c.in_ok-key.ensures;
      held = held;
      holds = holds;
      what = becomes _ _ _ _ _ _ c.in-Some.what held holds (λ t. kept.0 (below.0 t), λ k. below.1 (kept.1 k))
          (rw (c.is_some.ensures, c.is_some-2.ensures) at (sym c.what_becomes.ensures ∙ c.in-Some.is));
    }
