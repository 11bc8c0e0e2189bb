use Rattle.programs.proofs.chunkcalls.Common.{◌≡◌, ◌≢◌, ◌∙◌, ◌+◌, ◌∷◌, ◌++◌, [], append_assoc, ap, drop, get_or, refl, subst, sym, take, arith}
use Rattle.programs.proofs.chunkcalls.Common.{nat_tests, take-append-drop, err_from_is_err_and, IsReplyTo, HasStoppedAt, HasStoppedIn, Output}
use Rattle.programs.proofs.chunkcalls.Common.{written}
use Rattle.programs.proofs.chunkcalls.PartWay.{no_byte, one_byte, one_line, stopped_at, stopped_behind, take_next}
use Rattle.programs.proofs.chunkcalls.answering.answer_piece.Goals as goal

pub loop-byte-init : goal.loop-byte-init
loop-byte-init g c = (
  λ whole begun. no_byte whole (written g.W.Write.contents c.args.sink.now) c.args.line.now.items begun,
  refl,
)

pub loop-byte-preserved-then-byte-ne10 : goal.loop-byte-preserved-then-byte-ne10
loop-byte-preserved-then-byte-ne10 g c =
    let i = c.loop-byte.byte-index in
    let piece = c.args.piece.now in
    let other : get_or piece i 0 ≢ 10 = grind (arith, nat_tests) in
    let more : take (i + 1) piece ≡ take i piece ++ get_or piece i 0 ∷ [] =
    take_next piece i (omega arith) in (
      λ whole begun.
          let so_far = c.loop-byte.invariant.0 whole begun in
          rw more
          (one_byte whole (written g.W.Write.contents c.args.sink.now) (take i piece) c.loop-byte.line.items
          (written g.W.Write.contents c.loop-byte.sink) so_far (get_or piece i 0) c.push_within.new.line.items
          (c.in_ok-push_within.ensures so_far.left other so_far.begun)),
      c.loop-byte.invariant.1,
    )

pub loop-byte-preserved : goal.loop-byte-preserved
loop-byte-preserved g c =
    let i = c.loop-byte.byte-index in
    let piece = c.args.piece.now in
    let feed : get_or piece i 0 ≡ 10 = grind (arith, nat_tests) in
    let more : take (i + 1) piece ≡ take i piece ++ 10 ∷ [] =
    rw feed at (take_next piece i (omega arith)) in
    let (answer, is, sent) = c.in_ok-answer_line.ensures.answered in (
      λ whole begun.
          rw (more, c.clear.ensures.items)
          (one_line whole (written g.W.Write.contents c.args.sink.now) (take i piece) c.loop-byte.line.items
          (written g.W.Write.contents c.loop-byte.sink) (c.loop-byte.invariant.0 whole begun) answer
          (subst (λ line. IsReplyTo line answer) c.deref.ensures.value is)
          (written g.W.Write.contents c.answer_line.new.sink) sent),
      c.in_ok-answer_line.ensures.failed ∙ c.loop-byte.invariant.1,
    )

pub returns-in_err-push_within-clause-stopped : goal.returns-in_err-push_within-clause-stopped
returns-in_err-push_within-clause-stopped g c =
    let p = err_from_is_err_and c.from_residual.result c.from_residual.ensures.1 in
    let i = c.loop-byte.byte-index in
    let before : Output = written g.W.Write.contents c.args.sink.now in
    let now : Output = written g.W.Write.contents c.loop-byte.sink in
    rw p.1
    (λ whole begun. subst (λ piece. HasStoppedIn whole piece p.0 before now) (take-append-drop i c.args.piece.now)
    (stopped_behind whole before (take i c.args.piece.now) c.loop-byte.line.items now (c.loop-byte.invariant.0 whole begun) p.0
    (drop i c.args.piece.now)))

pub returns-in_err-answer_line-clause-stopped : goal.returns-in_err-answer_line-clause-stopped
returns-in_err-answer_line-clause-stopped g c =
    let p = err_from_is_err_and c.from_residual-in_err-answer_line.result c.from_residual-in_err-answer_line.ensures.1 in
    let i = c.loop-byte.byte-index in
    let piece = c.args.piece.now in
    let before : Output = written g.W.Write.contents c.args.sink.now in
    let now : Output = written g.W.Write.contents c.loop-byte.sink in
    let after : Output = written g.W.Write.contents c.answer_line.new.sink in
    let fault = c.in_err-answer_line.field-0.0 in
    let feed : get_or piece i 0 ≡ 10 = grind (arith, nat_tests) in
    let more : take (i + 1) piece ≡ take i piece ++ 10 ∷ [] = rw feed at (take_next piece i (omega arith)) in
    let all : take i piece ++ 10 ∷ drop (i + 1) piece ≡ piece =
    sym (append_assoc (take i piece) (10 ∷ []) (drop (i + 1) piece)) ∙ ap (λ front. front ++ drop (i + 1) piece) (sym more)
    ∙ take-append-drop (i + 1) piece
    in
    rw (p.1, p.2)
    (λ whole begun. subst (λ piece. HasStoppedIn whole piece fault before after) all
    (stopped_at whole before (take i piece) c.loop-byte.line.items now (c.loop-byte.invariant.0 whole begun) fault (drop (i + 1) piece) after
    (subst (λ line. HasStoppedAt line fault now after) c.deref.ensures.value c.in_err-answer_line.ensures.stopped)))
