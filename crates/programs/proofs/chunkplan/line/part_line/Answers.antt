use Rattle.programs.proofs.chunkplan.Common.{option_map, ranges_asked_of}
use Rattle.programs.proofs.chunkplan.Pieces.{part_tokens}
use Rattle.programs.proofs.chunkplan.Tokens.{then, wrote}
use Rattle.programs.proofs.chunkplan.line.part_line.Goals as goal

pub returns : goal.returns
returns c =
    let chunk = rw c.as_slice.ensures at c.in_ok-write_numbers.ensures in
    let shape = rw c.as_slice-2.ensures at c.in_ok-write_numbers-2.ensures in
    let all =
    then _ _ _ _ _ (wrote _ _ _ c.in_ok-begin_object.ensures)
    (then _ _ _ _ _ chunk
    (then _ _ _ _ _ c.in_ok-write_box.ensures
    (then _ _ _ _ _ c.in_ok-write_box-2.ensures
    (then _ _ _ _ _ c.in_ok-write_key.ensures
    (then _ _ _ _ _ c.in_ok-write_count.ensures
    (then _ _ _ _ _ c.in_ok-write_count-2.ensures
    (then _ _ _ _ _ c.in_ok-write_wanted.ensures
    (then _ _ _ _ _ shape
    (then _ _ _ _ _ c.in_ok-write_whole.ensures (wrote _ _ _ c.in_ok-end_object.ensures))))))))))
    in
    rw (part_tokens c.args.number c.args.of (option_map ranges_asked_of c.args.ranges.now) c.args.part.now)
    (rw (all.tokens, all.before, c.new-json.ensures.tokens, c.new-json.ensures.before, c.in_ok-with_capacity.ensures.items) at c.ended.ensures)
