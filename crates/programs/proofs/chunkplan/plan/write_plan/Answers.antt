use Rattle.programs.proofs.chunkplan.Common.{◌≡◌, ◌⊎◌, Err, ap, subst, Memory, inl, inr, option_map, refl, ⊎_elim, grid_in, stored_of, copy_to, copying_of, document_of}
use Rattle.programs.proofs.chunkplan.Common.{ranges_asked_of, read_of, resize_to, task_of, of_create}
use Rattle.zarrs_chunk_plan.proofs.OneConfiguration.{one_configuration}
use Rattle.programs.specs.chunkplan.Planned.{copy_text, resized_in, source_in, target_in, target_shape, text_by}
use Rattle.programs.specs.chunkplan.seen.Opened.{array_in}
use Rattle.programs.proofs.chunkplan.RunOutcomes.{source_still, target_still}
use Rattle.programs.proofs.chunkplan.Steps.{by_task, early, step_first, step_later, text_follows}
use Rattle.programs.proofs.chunkplan.plan.write_plan.Goals as goal

-- ---- both grids of a resize are made of one configuration

pub write_resize-requires : goal.write_resize-requires
write_resize-requires g c =
    record {
      resized = one_configuration (stored_of c.args.document.stored).chunk_grid _ _ (grid_in c.in_ok-array.array.grid)
          (grid_in c.in_ok-after-in-Resize.after) c.in_ok-array.ensures.made.is_grid c.in_ok-after-in-Resize.ensures;
    }

-- ---- what is sent, and why it stops

pub returns-in_err-array : goal.returns-in_err-array
returns-in_err-array g c =
    let document = document_of c.args.document in
    step_first (source_in document) (λ source. text_by document source document.task) _ (source_still document) _ _ c.from_residual.ensures.1
    (⊎_elim (λ memory. inl (ap of_create memory)) (λ is. inr (_, is, refl)) (rw c.deref.ensures.value at c.in_err-array.ensures.refused))

pub returns-in-Read : goal.returns-in-Read
returns-in-Read g c =
    let made = rw c.deref.ensures.value at c.in_ok-array.ensures.made in
    by_task (document_of c.args.document) (array_in c.in_ok-array.array)
    (read_of c.in-Read.subset c.in-Read.clip (option_map ranges_asked_of c.in-Read.ranges)) (ap task_of c.in-Read.is) made _ _ _
    (rw c.in_ok-subset-in-Read.ensures at c.write_read.ensures)

pub returns-in_err-target-in-Copy : goal.returns-in_err-target-in-Copy
returns-in_err-target-in-Copy g c =
    let document = document_of c.args.document in
    let source = array_in c.in_ok-array.array in
    let stored = stored_of c.in-Copy.target in
    let copying = copying_of c.in-Copy.copying in
    by_task document source (copy_to stored copying) (ap task_of c.in-Copy.is) (rw c.deref.ensures.value at c.in_ok-array.ensures.made) _ _ _
    (step_first (target_in stored (target_shape copying.selection document.shape)) (copy_text copying document.wanted source) _
    (target_still stored (target_shape copying.selection document.shape)) _ _ c.from_residual-in_err-target-in-Copy.ensures.1
    (rw (c.target_shape.ensures, c.deref-in-Copy.ensures.value) at c.in_err-target-in-Copy.ensures.made))

pub returns-in-Copy : goal.returns-in-Copy
returns-in-Copy g c =
    let document = document_of c.args.document in
    let source = array_in c.in_ok-array.array in
    let stored = stored_of c.in-Copy.target in
    let copying = copying_of c.in-Copy.copying in
    by_task document source (copy_to stored copying) (ap task_of c.in-Copy.is) (rw c.deref.ensures.value at c.in_ok-array.ensures.made) _ _ _
    (step_later (target_in stored (target_shape copying.selection document.shape)) (copy_text copying document.wanted source) _
    (array_in c.in_ok-target-in-Copy.target)
    (rw (c.target_shape.ensures, c.deref-in-Copy.ensures.value) at c.in_ok-target-in-Copy.ensures.made) _ _ c.write_copy.ensures)

pub returns-in_err-after-in-Resize : goal.returns-in_err-after-in-Resize
returns-in_err-after-in-Resize g c =
    let fault = c.in_err-after-in-Resize.field-0.0 in
    let document = document_of c.args.document in
    let source = array_in c.in_ok-array.array in
    by_task document source (resize_to c.in-Resize.shape.items c.in-Resize.include_unchanged) (ap task_of c.in-Resize.is)
    (rw c.deref.ensures.value at c.in_ok-array.ensures.made) _ _ _
    (early _ (λ fault. resized_in document.stored c.in-Resize.shape.items (Err fault)) _ _ _ c.from_residual-in_err-after-in-Resize.ensures.1
    (λ never. never)
    (subst (λ sizes. (fault ≡ Memory) ⊎ resized_in document.stored sizes (Err fault)) c.deref-in-Resize.ensures.value c.in_err-after-in-Resize.ensures)
    (λ is. is))

pub returns : goal.returns
returns g c =
    let document = document_of c.args.document in
    let source = array_in c.in_ok-array.array in
    by_task document source (resize_to c.in-Resize.shape.items c.in-Resize.include_unchanged) (ap task_of c.in-Resize.is)
    (rw c.deref.ensures.value at c.in_ok-array.ensures.made) _ _ _
    (text_follows _ _ (λ fault. resized_in document.stored c.in-Resize.shape.items (Err fault))
    (λ text is. (grid_in c.in_ok-after-in-Resize.after, rw c.deref-in-Resize.ensures.value at c.in_ok-after-in-Resize.ensures, is)) _ _ _
    c.write_resize.ensures)
