use Rattle.zarrs_chunk_tasks.specs.seen.Choices.{rows_of}
use Rattle.zarrs_chunk_tasks.proofs.ThinnedRows.{all_itself, all_of_thinned, thinner}
use Rattle.zarrs_chunk_tasks.proofs.thinning.thinned.Goals as goal

pub loop-alloc-init : goal.loop-alloc-init
loop-alloc-init g c = (c.requires.some, all_itself (rows_of c.args.rows.items))

pub loop-alloc-smaller : goal.loop-alloc-smaller
loop-alloc-smaller g c =
    let longest = rw c.deref-in-loop-alloc.ensures.value at c.longest_row-longest.ensures in
    let part = rw c.deref-in-loop-alloc-2.ensures.value at (c.in_ok-rows.ensures {u = tt}) in
    (thinner c.loop-alloc.rows.items c.longest_row-longest.result c.choices_of.result c.args.most c.index.result.now c.in_ok-rows.field-0
    (rw c.deref.ensures.value at c.choices_of.ensures) c.loop-alloc-test.true c.requires.most longest.is_one longest.longest c.index.ensures
    c.loop-alloc.invariant.0 part.fewer part.thinned).smaller

pub loop-alloc-preserved : goal.loop-alloc-preserved
loop-alloc-preserved g c =
    let longest = rw c.deref-in-loop-alloc.ensures.value at c.longest_row-longest.ensures in
    let part = rw c.deref-in-loop-alloc-2.ensures.value at (c.in_ok-rows.ensures {u = tt}) in
    let is =
    thinner c.loop-alloc.rows.items c.longest_row-longest.result c.choices_of.result c.args.most c.index.result.now c.in_ok-rows.field-0
    (rw c.deref.ensures.value at c.choices_of.ensures) c.loop-alloc-test.true c.requires.most longest.is_one longest.longest c.index.ensures
    c.loop-alloc.invariant.0 part.fewer part.thinned
    in
    (is.some, all_of_thinned (rows_of c.args.rows.items) (rows_of c.loop-alloc.rows.items) _ c.loop-alloc.invariant.1 is.thinned)
