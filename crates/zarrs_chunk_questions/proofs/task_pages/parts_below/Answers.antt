use Rattle.std.proofs.Common.{rules}
use Rattle.zarrs_chunk_plan.proofs.Walked.{at_first, at_last, one_more}
use Rattle.zarrs_chunk_questions.specs.seen.Copies.{dimensions_in, key_in}
use Rattle.zarrs_chunk_questions.proofs.PartsAhead.{as_many_parts}
use Rattle.zarrs_chunk_questions.proofs.task_pages.parts_below.Goals as goal

pub loop-part-init : goal.loop-part-init
loop-part-init c =
    at_first dimensions_in key_in c.args.walk c.into_iter-part-iterator.result c.new-all.result.items c.into_iter-part-iterator.ensures.into_iter_gives
    c.new-all.ensures.items c.requires.meet

pub loop-part-preserved : goal.loop-part-preserved
loop-part-preserved c =
    let gives = rw c.in_ok-part.was at c.in-Some.ensures.steps in
    one_more dimensions_in key_in c.args.walk c.loop-part.part-iterator c.next.new.self c.in_ok-part.field-0 c.loop-part.all.items
    c.push.new.self.items c.loop-part.invariant gives c.in_ok-push.ensures.items

pub returns-then-len-too_many : goal.returns-then-len-too_many
returns-then-len-too_many c =
    let gives = rw c.in_ok-part.was at c.in-Some.ensures.steps in
    let came = one_more dimensions_in key_in c.args.walk c.loop-part.part-iterator c.next.new.self c.in_ok-part.field-0 c.loop-part.all.items
    c.push.new.self.items c.loop-part.invariant gives c.in_ok-push.ensures.items
    in
    as_many_parts c.args.walk c.next.new.self c.push.new.self.items c.args.too_many c.requires.is_box came (search rules)

pub returns : goal.returns
returns c =
    at_last dimensions_in key_in c.args.walk c.loop-part.part-iterator c.next.new.self c.loop-part.all.items c.loop-part.invariant
    c.in-None.ensures.steps
