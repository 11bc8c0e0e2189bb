use Rattle.programs.proofs.chunkplan.Tokens.{then, wrote}
use Rattle.programs.proofs.chunkplan.line.change_line.Goals as goal

pub returns : goal.returns
returns c =
    let chunk = rw c.as_slice.ensures at c.in_ok-write_numbers.ensures in
    let all =
    then _ _ _ _ _ (wrote _ _ _ c.in_ok-begin_object.ensures)
    (then _ _ _ _ _ chunk
    (then _ _ _ _ _ c.in_ok-write_key.ensures
    (then _ _ _ _ _ c.in_ok-write_held.ensures
    (then _ _ _ _ _ c.in_ok-write_held_shape.ensures
    (then _ _ _ _ _ c.in_ok-write_count.ensures
    (then _ _ _ _ _ c.in_ok-write_count-2.ensures
    (then _ _ _ _ _ c.in_ok-write_held-2.ensures
    (then _ _ _ _ _ c.in_ok-write_held_shape-2.ensures
    (then _ _ _ _ _ c.in_ok-write_what.ensures (wrote _ _ _ c.in_ok-end_object.ensures))))))))))
    in
    rw (all.tokens, all.before, c.new-json.ensures.tokens, c.new-json.ensures.before, c.in_ok-with_capacity.ensures.items) at c.ended.ensures
