use Rattle.std.proofs.Common.{ap, arith, length}
use Rattle.zarrs_chunk_tasks.specs.seen.Choices.{rows_of}
use Rattle.zarrs_chunk_tasks.proofs.ThinnedRows.{longest_so_far, row_at}
use Rattle.zarrs_chunk_tasks.proofs.thinning.longest_row.Goals.{then-as_slice, else-as_slice}
use Rattle.zarrs_chunk_tasks.proofs.thinning.longest_row.Goals as goal

pub loop-place-preserved : goal.loop-place-preserved
loop-place-preserved g c =
    let rows = c.args.rows.now in
    let place = c.loop-place.place in
    let longest = c.loop-place.longest in
    let (within, so_far) = c.loop-place.invariant in
    let here = ap length (row_at rows place c.index-rows-place.result c.loop-place-test.true c.index-rows-place.is) in
    let best = ap length (row_at rows longest c.index-rows-longest.result within c.index-rows-longest.is) in
    let one = ap length c.as_slice.ensures.value in
    let other = ap length c.as_slice-in-loop-place.ensures.value in
    elim c.if-as_slice.branch [
      | then-as_slice w ↦
          rw w.longest-is (
            c.loop-place-test.true,
            longest_so_far (rows_of rows) place longest place so_far (omega (arith, here, best, w.if-as_slice.true, one, other)) (omega arith),
          )
      | else-as_slice w ↦
          rw w.longest-is (
            within,
            longest_so_far (rows_of rows) place longest longest so_far (omega arith) (omega (arith, here, best, w.if-as_slice.false, one, other)),
          )
    ]
