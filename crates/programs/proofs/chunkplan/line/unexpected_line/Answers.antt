use Rattle.programs.proofs.chunkplan.Tokens.{then, wrote}
use Rattle.programs.proofs.chunkplan.line.unexpected_line.Goals as goal

pub returns : goal.returns
returns c =
    let all =
    then _ _ _ _ _ (wrote _ _ _ c.in_ok-begin_object.ensures)
    (then _ _ _ _ _ (wrote _ _ _ c.in_ok-key.ensures)
    (then _ _ _ _ _ (wrote _ _ _ c.in_ok-string.ensures) (wrote _ _ _ c.in_ok-end_object.ensures)))
    in
    rw (all.tokens, all.before, c.new-json.ensures.tokens, c.new-json.ensures.before, c.in_ok-with_capacity.ensures.items) at c.ended.ensures
