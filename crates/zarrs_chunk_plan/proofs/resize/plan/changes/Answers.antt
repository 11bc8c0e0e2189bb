use Rattle.zarrs_chunk_plan.proofs.copy.AskedChunks.{are_changed}
use Rattle.zarrs_chunk_plan.proofs.resize.plan.changes.Goals as goal

pub returns-clause-changed : goal.returns-clause-changed
returns-clause-changed g c = λ resized.
    let is = c.in_ok-uses.ensures.changed resized in
    rw c.in_ok-new.ensures.left
    (are_changed _ _ _ _ _ is.before_it.those is.after_it.those is.kept.those _ _ c.in_ok-boxes.ensures.once c.in_ok-boxes.ensures.those)
