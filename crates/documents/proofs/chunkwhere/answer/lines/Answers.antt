use Rattle.std.proofs.Common.{◌≡◌, length, string_bytes, sym, ap, ◌∙◌, inr, arith}
use Rattle.std.proofs.lemmas.List.{map-id, nil_from_length}
use Rattle.documents.specs.chunkwhere.Document.{lists_in, sizes_in}
use Rattle.documents.proofs.chunkwhere.Lines.{so_far_at_start, so_far_with_line, wrong_length_is_first, so_far_at_end}
use Rattle.documents.proofs.chunkwhere.answer.lines.Goals as goal

pub loop-position-init : goal.loop-position-init
loop-position-init g c =
    let at = c.into_iter-position-iterator.ensures.into_iter_gives in
    let source = c.enumerate-position-items.ensures.source in
    let count = c.enumerate-position-items.ensures.count in
    let rest = c.into_iter.ensures.rest in
    rw (at, source, count, rest) (so_far_at_start _ _ _ _ c.new-text.ensures.bytes)

pub returns-in-Err-Refused : goal.returns-in-Err-Refused
returns-in-Err-Refused g c =
    let ((first, _), position, _, _) = c.in-Some.ensures.steps in
    let index = sizes_in c.in-Some.list in
    let read : c.deref.result.now ≡ index =
    c.deref.ensures.value ∙ sym (map-id c.read_list.new.values.items) ∙ rw c.clear.ensures.items at c.in_ok-read_list.ensures.values in
    let dimensions = g.G.ChunkGridTraits.dimensions c.args.grid.now in
    let (unequal, tells) = rw (c.in-Err-Refused.field-0-is, read) at c.in-Err-Refused.ensures in
    rw (c.in-Err-Refused.field-0-is, position)
    (inr (wrong_length_is_first dimensions (g.E.ChunkKeyEncodingTraits.is_key c.args.encoding.now) (lists_in c.args.indices.items) _ _
    (string_bytes c.loop-position.text) index _ _ c.loop-position.invariant (ap lists_in first) unequal tells))

pub loop-position-preserved : goal.loop-position-preserved
loop-position-preserved g c =
    let ((first, _), _, next, _) = c.in-Some.ensures.steps in
    let index = sizes_in c.in-Some.list in
    let read : c.deref.result.now ≡ index =
    c.deref.ensures.value ∙ sym (map-id c.read_list.new.values.items) ∙ rw c.clear.ensures.items at c.in_ok-read_list.ensures.values in
    let (has_length, line, is_line, text) = rw read at c.in-Ok.ensures in
    rw next (so_far_with_line (g.G.ChunkGridTraits.dimensions c.args.grid.now) (g.E.ChunkKeyEncodingTraits.is_key c.args.encoding.now)
    (lists_in c.args.indices.items) _ _ (string_bytes c.loop-position.text) index line (lists_in c.next.new.self.iter.rest.items)
    (string_bytes c.append_line.new.text) c.loop-position.invariant (ap lists_in first) has_length is_line text)

pub returns : goal.returns
returns g c =
    let left = c.loop-position.position-iterator.iter.rest in
    let none : length left.items ≡ 0 = omega (arith, c.in-None.ensures.steps.0.0) in
    so_far_at_end _ _ _ _ _ _ c.loop-position.invariant (ap lists_in (nil_from_length left.items none))
