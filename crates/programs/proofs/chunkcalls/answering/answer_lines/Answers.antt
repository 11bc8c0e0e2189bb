use Rattle.programs.proofs.chunkcalls.Common.{◌≡◌, ◌∙◌, ◌<◌, [], append-nil, length, refl, subst, sym, arith, err_from_is_err_and, on_ok_weaker}
use Rattle.programs.proofs.chunkcalls.Common.{has_failed, watched, Memory, Read, Output, written, for_known, flushed, some_sent, HasStoppedAt}
use Rattle.programs.proofs.chunkcalls.Common.{IsBegun}
use Rattle.std.proofs.Math.Bool.{or-false}
use Rattle.programs.proofs.chunkcalls.PartWay.{if_err_both, part_way_at_end, part_way_at_start, part_way_sent, part_way_stopped, part_way_stopped_in}
use Rattle.programs.proofs.chunkcalls.PartWay.{part_way_with, part_way_answered, part_way_stopped_writing, stopped_at_end}
use Rattle.programs.proofs.chunkcalls.answering.answer_lines.Goals as goal

pub loop-init : goal.loop-init
loop-init g c =
    rw c.new-line.ensures.items (
      λ input is_input.
          part_way_at_start input (written g.W.Write.contents c.args.sink.now)
          (g.R.Read.remaining (watched c.args.reader.now)) is_input,
      refl,
      refl,
      λ is. is,
    )

pub returns-then-count-eq0-clause-answered : goal.returns-then-count-eq0-clause-answered
returns-then-count-eq0-clause-answered g c =
    let now : Output = written g.W.Write.contents c.loop.sink in
    let after : Output = written g.W.Write.contents c.answer_rest.new.sink in
    let (consumes, at_end) = c.in-Ok.ensures.bytes in
    let zero : c.in-Ok.count ≡ 0 = c.if-count-eq0.true in
    let room : 0 < length c.read.new.buf = omega arith in
    on_ok_weaker c.answer_rest.result
    (λ answers_of. for_known (g.R.Read.remaining (watched c.args.reader.now)) _ (λ input is_input.
    let way = c.loop.invariant.0 input is_input in
    let (answers, are, sent) = answers_of way.line (subst (IsBegun way.line) (sym c.deref.ensures.value) way.begun) in
    part_way_at_end input (written g.W.Write.contents c.args.sink.now)
    (g.R.Read.remaining (watched c.loop.reader)) c.loop.line.items now way c.read.new.buf c.in-Ok.count
    (g.R.Read.remaining (watched c.read.new.self)) consumes zero (at_end zero room) answers after are sent))
    c.answer_rest.ensures.answered

pub loop-preserved : goal.loop-preserved
loop-preserved g c =
    let before : Output = written g.W.Write.contents c.args.sink.now in
    let now : Output = written g.W.Write.contents c.loop.sink in
    let answered : Output = written g.W.Write.contents c.answer_piece.new.sink in
    let after : Output = written g.W.Write.contents c.flush.new.self in
    let left = g.R.Read.remaining (watched c.loop.reader) in
    let left_after = g.R.Read.remaining (watched c.read.new.self) in (
      λ input is_input.
          let way = c.loop.invariant.0 input is_input in
          part_way_sent input before left_after c.answer_piece.new.line.items answered
          (part_way_with input before left c.loop.line.items now way _ left_after c.in-Ok.ensures.bytes.0 c.answer_piece.new.line.items answered
          (c.in_ok-answer_piece.ensures.answered way.line way.begun))
          after
          (flushed answered after c.in_ok-flush.ensures.empty c.in_ok-flush.ensures.ok),
      c.in-Ok.ensures.failed ∙ or-false (has_failed c.loop.reader) ∙ c.loop.invariant.1,
      c.in_ok-flush.ensures.unfailed ∙ c.in_ok-answer_piece.ensures.failed ∙ c.loop.invariant.2,
      λ _. c.in_ok-flush.ensures.empty,
    )

pub returns-in_default-clause-stopped : goal.returns-in_default-clause-stopped
returns-in_default-clause-stopped g c = for_known (g.R.Read.remaining (watched c.args.reader.now)) _ (λ input is_input.
    part_way_stopped input (written g.W.Write.contents c.args.sink.now) _ c.loop.line.items
    (written g.W.Write.contents c.loop.sink) (c.loop.invariant.0 input is_input) Read)

pub returns-in_default-clause-read : goal.returns-in_default-clause-read
returns-in_default-clause-read g c = λ _. for_known (g.R.Read.remaining (watched c.args.reader.now)) _ (λ input is_input.
    part_way_answered input (written g.W.Write.contents c.args.sink.now)
    (g.R.Read.remaining (watched c.loop.reader)) c.loop.line.items (written g.W.Write.contents c.loop.sink)
    (c.loop.invariant.0 input is_input) (g.R.Read.remaining (watched c.read.new.self)) c.in_default.ensures.bytes c.loop.invariant.3)

pub returns-clause-stopped : goal.returns-clause-stopped
returns-clause-stopped g c = for_known (g.R.Read.remaining (watched c.args.reader.now)) _ (λ input is_input.
    part_way_stopped input (written g.W.Write.contents c.args.sink.now) _ c.loop.line.items
    (written g.W.Write.contents c.loop.sink) (c.loop.invariant.0 input is_input) Memory)

pub returns-then-count-eq0-clause-stopped : goal.returns-then-count-eq0-clause-stopped
returns-then-count-eq0-clause-stopped g c =
    let before : Output = written g.W.Write.contents c.args.sink.now in
    let now : Output = written g.W.Write.contents c.loop.sink in
    let after : Output = written g.W.Write.contents c.answer_rest.new.sink in
    let (consumes, at_end) = c.in-Ok.ensures.bytes in
    let zero : c.in-Ok.count ≡ 0 = c.if-count-eq0.true in
    let room : 0 < length c.read.new.buf = omega arith in
    if_err_both _ _ _ c.answer_rest.result c.answer_rest.ensures.stopped c.answer_rest.ensures.some
    (λ fault stopped some. for_known (g.R.Read.remaining (watched c.args.reader.now)) _ (λ input is_input.
    stopped_at_end input before (g.R.Read.remaining (watched c.loop.reader)) c.loop.line.items now (c.loop.invariant.0 input is_input) c.read.new.buf
    c.in-Ok.count (g.R.Read.remaining (watched c.read.new.self)) consumes zero (at_end zero room) (rw c.deref.ensures.value at some) fault after
    (subst (λ line. HasStoppedAt line fault now after) c.deref.ensures.value stopped)))

pub returns-in_err-answer_piece-clause-stopped : goal.returns-in_err-answer_piece-clause-stopped
returns-in_err-answer_piece-clause-stopped g c =
    let p = err_from_is_err_and c.from_residual.result c.from_residual.ensures.1 in
    let before : Output = written g.W.Write.contents c.args.sink.now in
    let now : Output = written g.W.Write.contents c.loop.sink in
    let after : Output = written g.W.Write.contents c.answer_piece.new.sink in
    rw (p.1, p.2)
    (for_known (g.R.Read.remaining (watched c.args.reader.now)) _ (λ input is_input.
    let way = c.loop.invariant.0 input is_input in
    part_way_stopped_in input before (g.R.Read.remaining (watched c.loop.reader)) c.loop.line.items now way _
    (g.R.Read.remaining (watched c.read.new.self)) c.in-Ok.ensures.bytes.0 c.in_err-answer_piece.field-0.0 after
    (c.in_err-answer_piece.ensures.stopped way.line way.begun)))

pub returns-in_err-flush-clause-stopped : goal.returns-in_err-flush-clause-stopped
returns-in_err-flush-clause-stopped g c =
    let p = err_from_is_err_and c.from_residual-in_err-flush.result c.from_residual-in_err-flush.ensures.1 in
    let before : Output = written g.W.Write.contents c.args.sink.now in
    let now : Output = written g.W.Write.contents c.loop.sink in
    let answered : Output = written g.W.Write.contents c.answer_piece.new.sink in
    let after : Output = written g.W.Write.contents c.flush.new.self in
    let left_after = g.R.Read.remaining (watched c.read.new.self) in
    let (rest, sends) = some_sent answered after.holds [] answered.held_back (sym (append-nil answered.held_back)) c.in_err-flush.ensures.err in
    rw (p.1, p.2, c.in_err-flush.ensures.failed.0)
    (for_known (g.R.Read.remaining (watched c.args.reader.now)) _ (λ input is_input.
    let way = c.loop.invariant.0 input is_input in
    part_way_stopped_writing input before left_after c.answer_piece.new.line.items answered
    (part_way_with input before (g.R.Read.remaining (watched c.loop.reader)) c.loop.line.items now way _ left_after c.in-Ok.ensures.bytes.0
    c.answer_piece.new.line.items answered (c.in_ok-answer_piece.ensures.answered way.line way.begun))
    after rest sends))
