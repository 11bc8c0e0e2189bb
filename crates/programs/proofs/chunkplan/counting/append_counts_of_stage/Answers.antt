use Rattle.std.proofs.Common.{codes, refl}
use Rattle.programs.proofs.chunkplan.Appended.{more, named}
use Rattle.programs.proofs.chunkplan.counting.append_counts_of_stage.Goals as goal

pub returns : goal.returns
returns c =
    let old = c.args.line.now.items in
    let (read, are_read, l1) = c.in_ok-append_of_tasks.ensures in
    let (written, are_written, l2) = c.in_ok-append_of_tasks-2.ensures in
    let (decoded, are_decoded, l3) = c.in_ok-append_of_tasks-3.ensures in
    let (moved, are_moved, l4) = c.in_ok-append_product.ensures in
    let l5 = c.in_ok-append_shape.ensures in
    let (largest, are_largest, l6) = c.in_ok-append_of_tasks-4.ensures in
    let l7 = rw (c.deref.ensures.value, c.in_ok-each.ensures) at c.in_ok-append_shape-2.ensures in
    let (tasks, are_tasks, l8) = c.in_ok-append_of_tasks-5.ensures in (
      _,
      record {
        chunks_read = read;
        chunks_written = written;
        elements_decoded = decoded;
        elements_moved = moved;
        largest_task = largest;
        tasks = tasks;
        is_chunks_read = are_read;
        is_chunks_written = are_written;
        is_elements_decoded = are_decoded;
        is_elements_moved = rw c.shape.ensures.value at are_moved;
        is_largest_task = are_largest;
        is_tasks = are_tasks;
        is = refl;
      },
      more old _ _ _ (codes "}") c.in_ok-extend_from_slice.ensures.items
          (named old _ _ _ (codes ",\"tasks\":") tasks l8
          (named old _ _ _ (codes ",\"task_chunks\":") _ l7
          (named old _ _ _ (codes ",\"largest_task\":") largest l6
          (named old _ _ _ (codes ",\"intermediate\":") _ l5
          (named old _ _ _ (codes ",\"elements_moved\":") moved l4
          (named old _ _ _ (codes ",\"elements_decoded\":") decoded l3
          (named old _ _ _ (codes ",\"chunks_written\":") written l2 l1))))))),
    )
