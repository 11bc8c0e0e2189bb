use Rattle.programs.proofs.chunkplan.Tokens.{then, wrote}
use Rattle.programs.proofs.chunkplan.line.write_box.Goals as goal

pub returns : goal.returns
returns c =
    let start = rw c.start.ensures.value at c.in_ok-write_list.ensures in
    let shape = rw c.shape.ensures.value at c.in_ok-write_list-2.ensures in
    then _ _ _ _ _ (wrote _ _ _ c.in_ok-key.ensures)
    (then _ _ _ _ _ (wrote _ _ _ c.in_ok-begin_array.ensures) (then _ _ _ _ _ start (then _ _ _ _ _ shape (wrote _ _ _ c.in_ok-end_array.ensures))))
