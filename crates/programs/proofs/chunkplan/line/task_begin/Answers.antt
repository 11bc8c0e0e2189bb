use Rattle.programs.proofs.chunkplan.Common.{◌≡◌, ap, begin_of_task, unbroken}
use Rattle.programs.proofs.chunkplan.Tokens.{then, wrote}
use Rattle.programs.proofs.chunkplan.line.task_begin.Goals as goal

pub returns : goal.returns
returns c =
    let all =
    then _ _ _ _ _ (wrote _ _ _ c.in_ok-begin_object.ensures)
    (then _ _ _ _ _ c.in_ok-write_numbers.ensures
    (then _ _ _ _ _ (wrote _ _ _ c.in_ok-key.ensures) (wrote _ _ _ c.in_ok-begin_array.ensures)))
    in
    let printed = rw (all.tokens, all.before, c.new-json.ensures.tokens, c.new-json.ensures.before, c.in_ok-with_capacity.ensures.items)
    at c.into_inner.ensures.items in
    let same : unbroken c.into_inner.result.items ≡ begin_of_task c.args.buffer.now = ap unbroken printed in
    rw same at c.unbroken.ensures
