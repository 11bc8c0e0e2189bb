use Rattle.programs.proofs.chunkplan.Common.{◌∙◌, watched, written, for_known}
use Rattle.programs.proofs.chunkplan.Exits.{handed}
use Rattle.programs.proofs.chunkplan.RunOutcomes.{all_written, sending_stops, some_written}
use Rattle.programs.proofs.chunkplan.run.Goals as goal

pub returns-in_err-answer_input-clause-leaves : goal.returns-in_err-answer_input-clause-leaves
returns-in_err-answer_input-clause-leaves g c =
    rw (handed _ _ c.from_residual.ensures.1)
    (for_known (g.R.Read.remaining (watched c.args.reader.now)) _ (λ input is_input held all not_read not_written.
    sending_stops input held _ (written g.W.Write.contents c.args.sink.now) all.0 all.1
    not_written (written g.W.Write.contents c.answer_input.new.sink).held_back _ ((rw is_input at c.in_err-answer_input.ensures.leaves) not_read)
    (λ is_read. rw is_input at (c.in_err-answer_input.ensures.read is_read))))

pub returns-in_err-flush-clause-leaves : goal.returns-in_err-flush-clause-leaves
returns-in_err-flush-clause-leaves g c =
    rw (handed _ _ c.from_residual-in_err-flush.ensures.1)
    (for_known (g.R.Read.remaining (watched c.args.reader.now)) _ (λ input is_input held all not_read not_written.
    let (read, left, (text, is, (sent, now, parts), same)) = rw (all.0, all.1) at ((rw is_input at c.in_ok-answer_input.ensures.leaves) not_read) in
    some_written input held _ (left, read) _ (same ∙ not_written) text sent (written g.W.Write.contents c.answer_input.new.sink).held_back is parts
    _ c.in_err-flush.ensures.failed (rw now at c.in_err-flush.ensures.err)))

pub returns-clause-leaves : goal.returns-clause-leaves
returns-clause-leaves g c =
    for_known (g.R.Read.remaining (watched c.args.reader.now)) _ (λ input is_input held all not_read not_written.
    let (read, left, (text, is, (sent, now, parts), same)) = rw (all.0, all.1) at ((rw is_input at c.in_ok-answer_input.ensures.leaves) not_read) in
    all_written input held _ (left, read) _ (same ∙ not_written) text sent (written g.W.Write.contents c.answer_input.new.sink).held_back is parts
    (rw now at c.in_ok-flush.ensures.ok) c.in_ok-flush.ensures.unfailed)
