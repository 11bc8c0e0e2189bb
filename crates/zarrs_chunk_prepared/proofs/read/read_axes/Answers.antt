use Rattle.std.proofs.Common.{◌≡◌, ◌∙◌, ◌<◌, length, rules}
use Rattle.zarrs_chunk_prepared.proofs.Rows.{all_read, none_behind, none_left, one_more, one_row_more}
use Rattle.zarrs_chunk_prepared.proofs.read.read_axes.Goals as goal

pub loop-axis-preserved : goal.loop-axis-preserved
loop-axis-preserved c =
    let (so_far, numbers) = c.loop-axis.invariant in
    rw c.in_ok-push.ensures.items (
      λ tables long is. one_more c.loop-axis.axes.items c.in-Some.axis c.loop-axis.rest.now c.in-Some.behind.now tables (so_far tables long is)
          c.in-Some.ensures.shorter c.in-Some.ensures.next,
      one_row_more c.loop-axis.axes.items c.in-Some.axis c.args.numbers.now c.loop-axis.rest.now c.in-Some.behind.now numbers
          c.in-Some.ensures.numbers,
    )

pub returns-then-is_empty-clause-tables : goal.returns-then-is_empty-clause-tables
returns-then-is_empty-clause-tables c tables long is =
    let none : length c.loop-axis.rest.now ≡ 0 = search rules in
    all_read c.loop-axis.axes.items c.loop-axis.rest.now tables none (c.loop-axis.invariant.0 tables long is)

pub returns-then-is_empty-clause-numbers : goal.returns-then-is_empty-clause-numbers
returns-then-is_empty-clause-numbers c =
    let none : length c.loop-axis.rest.now ≡ 0 = search rules in
    c.loop-axis.invariant.1 ∙ none_behind _ c.loop-axis.rest.now none

pub returns-clause-tables : goal.returns-clause-tables
returns-clause-tables c tables long is =
    let some : 0 < length c.loop-axis.rest.now = search rules in
    none_left c.loop-axis.axes.items c.loop-axis.rest.now tables some (c.loop-axis.invariant.0 tables long is) c.in_default.ensures.next
