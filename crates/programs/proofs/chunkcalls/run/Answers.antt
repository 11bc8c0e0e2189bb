use Rattle.programs.proofs.chunkcalls.Common.{◌≢◌, rules, watched, Write, HasAnswered, HoldsAnswers, written}
use Rattle.programs.proofs.chunkcalls.Counts.{are_lines_for}
use Rattle.programs.proofs.chunkcalls.PartWay.{all_written, answered_read, begun_at_end, begun_held_back, begun_unwritten}
use Rattle.programs.proofs.chunkcalls.run.Goals as goal

pub returns-in-Ok-clause-answered : goal.returns-in-Ok-clause-answered
returns-in-Ok-clause-answered g c =
    let after = (written g.W.Write.contents c.flush.new.self).holds in
    all_written c.flush.result (g.R.Read.remaining (watched c.args.reader.now)) (written g.W.Write.contents c.args.sink.now)
    (written g.W.Write.contents c.answer_lines.new.sink) after (λ input held. HasAnswered input held after)
    (λ input held (answers, are, holds). (answers, are_lines_for input answers are, holds)) c.in-Ok.ensures.answered c.flush.ensures.ok

pub returns-in-Ok-clause-says : goal.returns-in-Ok-clause-says
returns-in-Ok-clause-says g c =
    let after = (written g.W.Write.contents c.flush.new.self).holds in
    all_written c.flush.result (g.R.Read.remaining (watched c.args.reader.now)) (written g.W.Write.contents c.args.sink.now)
    (written g.W.Write.contents c.answer_lines.new.sink) after (λ input held. HoldsAnswers input held after)
    (λ input held says. says) c.in-Ok.ensures.answered c.flush.ensures.ok

pub returns-in-Ok-clause-begun : goal.returns-in-Ok-clause-begun
returns-in-Ok-clause-begun g c =
    begun_at_end c.flush.result (g.R.Read.remaining (watched c.args.reader.now)) (written g.W.Write.contents c.args.sink.now)
    (written g.W.Write.contents c.answer_lines.new.sink) (written g.W.Write.contents c.flush.new.self).holds c.in-Ok.ensures.answered
    c.flush.ensures.err

pub returns-in-Err-Write-clause-begun : goal.returns-in-Err-Write-clause-begun
returns-in-Err-Write-clause-begun g c =
    begun_unwritten (g.R.Read.remaining (watched c.args.reader.now)) (written g.W.Write.contents c.args.sink.now)
    (written g.W.Write.contents c.answer_lines.new.sink) _ c.in-Err-Write.ensures.stopped

pub returns-in-Err-clause-begun : goal.returns-in-Err-clause-begun
returns-in-Err-clause-begun g c =
    let other : c.in-Err.fault ≢ Write = search rules in
    begun_held_back (g.R.Read.remaining (watched c.args.reader.now)) (written g.W.Write.contents c.args.sink.now)
    (written g.W.Write.contents c.answer_lines.new.sink) c.in-Err.fault c.in-Err.ensures.stopped c.flush-in-Err.result
    (written g.W.Write.contents c.flush-in-Err.new.self).holds other c.flush-in-Err.ensures.ok c.flush-in-Err.ensures.err

pub returns-in-Err-clause-read : goal.returns-in-Err-clause-read
returns-in-Err-clause-read g c = λ is_read.
    answered_read (g.R.Read.remaining (watched c.args.reader.now)) (g.R.Read.remaining (watched c.answer_lines.new.reader))
    (written g.W.Write.contents c.args.sink.now) (written g.W.Write.contents c.answer_lines.new.sink) (c.in-Err.ensures.read is_read)
    c.flush-in-Err.result (written g.W.Write.contents c.flush-in-Err.new.self).holds c.flush-in-Err.ensures.ok c.flush-in-Err.ensures.err
