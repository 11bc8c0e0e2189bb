use Rattle.streams.specs.seen.Sent.{written}
use Rattle.programs.proofs.chunkcalls.PartWay.{answer_sent, answer_stopped}
use Rattle.programs.proofs.chunkcalls.answering.answer_line.Goals as goal

pub returns-clause-answered : goal.returns-clause-answered
returns-clause-answered g c =
    let replied = c.in_ok-reply in
    answer_sent c.send.result c.args.line.now replied.reply.items c.deref.result.now
    (written g.W.Write.contents c.args.sink.now)
    (written g.W.Write.contents c.send.new.self)
    c.deref.ensures.value (replied.ensures.one, replied.ensures.says) c.send.ensures.sent

pub returns-clause-stopped : goal.returns-clause-stopped
returns-clause-stopped g c =
    let replied = c.in_ok-reply in
    answer_stopped c.send.result c.args.line.now replied.reply.items c.deref.result.now
    (written g.W.Write.contents c.args.sink.now)
    (written g.W.Write.contents c.send.new.self)
    c.deref.ensures.value (replied.ensures.one, replied.ensures.says)
    c.send.ensures.sent c.send.ensures.failed c.send.ensures.unchanged
