use Rattle.zarrs_chunk_plan.proofs.Common.{◌+◌, ◌∙◌, arith, refl, length, ap, sym, counted, row_major}
use Rattle.zarrs_chunk_plan.proofs.resize.ChunksChanged.{all_counted, one_box_counted, zero_counted}
use Rattle.zarrs_chunk_plan.proofs.resize.chunk_changes.Changes.in_all.Goals as goal

pub loop-chunks-init : goal.loop-chunks-init
loop-chunks-init g c = (0, zero_counted, omega arith)

pub loop-chunks-preserved : goal.loop-chunks-preserved
loop-chunks-preserved g c =
    let (n, counted_so, so_far) = c.loop-chunks.invariant in
    let b = c.chunks-item.result in
    let count = length (row_major b.shape) in (
      n + count,
      c.sum_of-count.ensures n count counted_so (rw c.shape.ensures.value at c.count_of.ensures),
      one_box_counted c.args.self.now.boxes.items c.loop-chunks.chunks-index n count _ b (rw c.deref-chunks-items.ensures.value at c.loop-chunks-test.true)
          (rw c.deref-chunks-items.ensures.value at (sym c.chunks-item.is)) refl so_far,
    )

pub returns : goal.returns
returns g c =
    let (n, counted_so, so_far) = c.loop-chunks.invariant in
    counted_so ∙ ap counted (all_counted _ _ _ (rw c.deref-chunks-items.ensures.value at c.loop-chunks-test.false) so_far)
