use Rattle.std.proofs.Common.{◌≡◌, ◌++◌, ◌∙◌, length, map, ap, append_assoc, refl, string_bytes, arith}
use Rattle.std.proofs.lemmas.List.{nil_from_length}
use Rattle.documents.specs.chunkwhere.Output.{IsKeyLine}
use Rattle.documents.proofs.chunkwhere.Lines.{lines_at_end, lines_with_one}
use Rattle.documents.proofs.chunkwhere.answer.append_key_lines.Goals as goal

pub loop-key-preserved : goal.loop-key-preserved
loop-key-preserved g c =
    let IsOne = IsKeyLine c.args.dimensionality (g.E.ChunkKeyEncodingTraits.is_key c.args.encoding.now) in
    let all = map string_bytes c.args.keys.items in
    let (first, _) = c.in-Some.ensures.steps in
    let (lines, so_far, text) = c.loop-key.invariant in
    let (line, is_line, longer) = c.in_ok-append_key_line.ensures in (
      lines ++ line,
      lines_with_one IsOne all (map string_bytes c.loop-key.key-iterator.rest.items) lines (string_bytes c.in-Some.key) line
          (map string_bytes c.next.new.self.rest.items) (lines ++ line) so_far (ap (map string_bytes) first) is_line refl,
      longer ∙ ap (λ t. t ++ line) text ∙ append_assoc (string_bytes c.args.text.now) lines line,
    )

pub returns : goal.returns
returns g c =
    let IsOne = IsKeyLine c.args.dimensionality (g.E.ChunkKeyEncodingTraits.is_key c.args.encoding.now) in
    let left = c.loop-key.key-iterator.rest.items in
    let (lines, so_far, text) = c.loop-key.invariant in
    let none : length left ≡ 0 = omega (arith, c.in-None.ensures.steps.0) in
    let empty = ap (map string_bytes) (nil_from_length left none) in
    (lines, lines_at_end IsOne (map string_bytes c.args.keys.items) (map string_bytes left) lines so_far empty, text)
