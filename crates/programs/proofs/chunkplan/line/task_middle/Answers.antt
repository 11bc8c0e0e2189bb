use Rattle.programs.proofs.chunkplan.Common.{◌≡◌, ap, middle_of_task, unbroken}
use Rattle.programs.proofs.chunkplan.Tokens.{then, wrote}
use Rattle.programs.proofs.chunkplan.line.task_middle.Goals as goal

pub returns : goal.returns
returns c =
    let all =
    then _ _ _ _ _ (wrote _ _ _ c.in_ok-end_array.ensures)
    (then _ _ _ _ _ c.in_ok-write_count.ensures
    (then _ _ _ _ _ c.in_ok-write_count-2.ensures
    (then _ _ _ _ _ (wrote _ _ _ c.in_ok-key.ensures) (wrote _ _ _ c.in_ok-begin_array.ensures))))
    in
    let printed = rw (all.tokens, all.before, c.new-json.ensures.tokens, c.new-json.ensures.before, c.in_ok-with_capacity.ensures.items)
    at c.into_inner.ensures.items in
    let same : unbroken c.into_inner.result.items ≡ middle_of_task c.args.number c.args.of = ap unbroken printed in
    rw same at c.unbroken.ensures
