use Rattle.programs.proofs.chunkplan.Common.{[], ap, inl, inr, refl, ⊎_elim, stored_of, copying_of, document_of, task_of, wanted_of, of_create}
use Rattle.programs.specs.chunkplan.Planned.{beside_by, copy_beside, source_in, target_in, target_shape}
use Rattle.programs.specs.chunkplan.seen.Opened.{array_in}
use Rattle.programs.proofs.chunkplan.KeySteps.{read_first, read_later}
use Rattle.programs.proofs.chunkplan.ReadsLast.{fails_later, fails_of_share}
use Rattle.programs.proofs.chunkplan.RunOutcomes.{source_still, target_still}
use Rattle.programs.proofs.chunkplan.StoredTasks.{of_share}
use Rattle.programs.proofs.chunkplan.resume.write_beside_keys.Goals as goal

pub returns-in_err-array-clause-leaves : goal.returns-in_err-array-clause-leaves
returns-in_err-array-clause-leaves g c = λ bytes is.
    let document = document_of c.args.document in
    read_first (source_in document) (beside_by document bytes document.wanted document.task) _ _ _ (source_still document) _ _
    c.from_residual.ensures.1
    (⊎_elim (λ memory. inl (ap of_create memory)) (λ is. inr (_, is, refl)) (rw c.deref.ensures.value at c.in_err-array.ensures.refused))

pub returns-in_err-target-in-Copy-Lines-clause-leaves : goal.returns-in_err-target-in-Copy-Lines-clause-leaves
returns-in_err-target-in-Copy-Lines-clause-leaves g c = λ bytes is.
    let document = document_of c.args.document in
    let source = array_in c.in_ok-array.array in
    let stored = stored_of c.in-Copy-Lines.target in
    let copying = copying_of c.in-Copy-Lines.copying in
    of_share document source stored copying _ (rw c.deref.ensures.value at c.in_ok-array.ensures.made)
    (ap task_of c.in-Copy-Lines.is-0) (ap wanted_of c.in-Copy-Lines.is-1) bytes _ _ _ _ _ _
    (read_first (target_in stored (target_shape copying.selection document.shape)) (copy_beside copying c.in-Copy-Lines.share bytes source) _ _ _
    (target_still stored (target_shape copying.selection document.shape)) _ _ c.from_residual-in_err-target-in-Copy-Lines.ensures.1
    (rw (c.target_shape.ensures, c.deref-in-Copy-Lines.ensures.value) at c.in_err-target-in-Copy-Lines.ensures.made))

pub returns-clause-leaves : goal.returns-clause-leaves
returns-clause-leaves g c = λ bytes is.
    let document = document_of c.args.document in
    let source = array_in c.in_ok-array.array in
    let stored = stored_of c.in-Copy-Lines.target in
    let copying = copying_of c.in-Copy-Lines.copying in
    of_share document source stored copying _ (rw c.deref.ensures.value at c.in_ok-array.ensures.made)
    (ap task_of c.in-Copy-Lines.is-0) (ap wanted_of c.in-Copy-Lines.is-1) bytes _ _ _ _ _ _
    (read_later (target_in stored (target_shape copying.selection document.shape)) (copy_beside copying c.in-Copy-Lines.share bytes source) _ _ _
    (array_in c.in_ok-target-in-Copy-Lines.target)
    (rw (c.target_shape.ensures, c.deref-in-Copy-Lines.ensures.value) at c.in_ok-target-in-Copy-Lines.ensures.made) _ _ _
    (c.write_copy.ensures.leaves bytes is))

pub returns-clause-keys_last : goal.returns-clause-keys_last
returns-clause-keys_last g c =
    let document = document_of c.args.document in
    let source = array_in c.in_ok-array.array in
    let stored = stored_of c.in-Copy-Lines.target in
    let copying = copying_of c.in-Copy-Lines.copying in
    fails_of_share document source stored copying _ (rw c.deref.ensures.value at c.in_ok-array.ensures.made)
    (ap task_of c.in-Copy-Lines.is-0) (ap wanted_of c.in-Copy-Lines.is-1) [] c.write_copy.result
    (fails_later (target_in stored (target_shape copying.selection document.shape)) (copy_beside copying c.in-Copy-Lines.share [] source)
    (array_in c.in_ok-target-in-Copy-Lines.target)
    (rw (c.target_shape.ensures, c.deref-in-Copy-Lines.ensures.value) at c.in_ok-target-in-Copy-Lines.ensures.made) c.write_copy.result
    c.write_copy.ensures.keys_last)
