use Rattle.programs.proofs.chunkplan.Common.{◌≡◌, ◌∙◌, ◌++◌, ap, print, json_tokens, overlap_json, comma_before, item_text, unbroken}
use Rattle.programs.proofs.chunkplan.Pieces.{item_escaped, overlap_tokens}
use Rattle.programs.proofs.chunkplan.Tokens.{then, wrote}
use Rattle.programs.proofs.chunkplan.line.overlap_text.Goals as goal

pub returns : goal.returns
returns c =
    let chunk = rw c.as_slice.ensures at c.in_ok-write_numbers.ensures in
    let shape = rw c.as_slice-2.ensures at c.in_ok-write_numbers-2.ensures in
    let all =
    then _ _ _ _ _ (wrote _ _ _ c.in_ok-begin_object.ensures)
    (then _ _ _ _ _ chunk
    (then _ _ _ _ _ c.in_ok-write_box.ensures
    (then _ _ _ _ _ c.in_ok-write_box-2.ensures
    (then _ _ _ _ _ c.in_ok-write_key.ensures
    (then _ _ _ _ _ shape
    (then _ _ _ _ _ c.in_ok-write_whole_if.ensures (wrote _ _ _ c.in_ok-end_object.ensures)))))))
    in
    let printed = rw (all.tokens, all.before, c.new-json.ensures.tokens, c.new-json.ensures.before, c.in_ok-begin_item.ensures)
    at c.into_inner.ensures.items in
    let text : c.into_inner.result.items ≡ comma_before c.args.number ++ print (json_tokens (overlap_json c.args.written c.args.part.now)) =
    rw (overlap_tokens c.args.written c.args.part.now) printed in
    let same : unbroken c.into_inner.result.items ≡ item_text (overlap_json c.args.written) c.args.number c.args.part.now =
    ap unbroken text ∙ item_escaped (overlap_json c.args.written) c.args.number c.args.part.now in
    rw same at c.unbroken.ensures
