use Rattle.programs.proofs.chunkcalls.Common.{◌≡◌, ◌<◌, [], length, subst, sym, arith, nat_tests, nil_from_length, on_ok_weaker, AreAnswers}
use Rattle.programs.proofs.chunkcalls.Common.{last_line, no_line, written, sends_nothing}
use Rattle.programs.proofs.chunkcalls.KeptLines.{kept_bytes, of_whole}
use Rattle.programs.proofs.chunkcalls.answering.answer_rest.Goals as goal

pub returns-then-is_empty-clause-answered : goal.returns-then-is_empty-clause-answered
returns-then-is_empty-clause-answered g c = λ whole begun.
    let held : length c.args.line.now ≡ 0 = grind (arith, nat_tests) in
    let counted = kept_bytes whole c.args.line.now begun in
    let none : length whole ≡ 0 = omega arith in (
      [],
      subst (λ line. AreAnswers line []) (sym (nil_from_length whole none)) no_line,
      sends_nothing (written g.W.Write.contents c.args.sink.now),
    )

pub returns-clause-answered : goal.returns-clause-answered
returns-clause-answered g c =
    on_ok_weaker c.answer_line.result
    (λ (answer, is, sent) whole begun.
    let held : 0 < length c.args.line.now = grind (arith, nat_tests) in
    let counted = kept_bytes whole c.args.line.now begun in
    let more : 0 < length whole = omega arith in
    (answer, last_line whole answer more begun.unbroken (of_whole whole c.args.line.now answer begun.is_kept is), sent))
    c.answer_line.ensures.answered
