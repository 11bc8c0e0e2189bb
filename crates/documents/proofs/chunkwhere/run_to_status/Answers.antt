use Rattle.streams.specs.Watched.{watched}
use Rattle.streams.proofs.Known.{for_both}
use Rattle.streams.proofs.Told.{on_one, on_zero}
use Rattle.documents.proofs.chunkwhere.run_to_status.Goals as goal

pub returns-clause-outcome : goal.returns-clause-outcome
returns-clause-outcome g c =
    for_both (g.R.Read.remaining (watched c.args.reader.now)) (g.W.Write.contents (watched c.args.writer.now)) _
    (λ input held is_input is_held not_read not_written.
    let leaves = rw (is_input, is_held) at c.run-outcome.ensures.leaves in
    (c.run-outcome.result, leaves not_read not_written, c.finish.ensures.status))

pub returns-clause-flushed : goal.returns-clause-flushed
returns-clause-flushed g c = on_zero c.run-outcome.result c.finish.result _ c.finish.ensures.status c.run-outcome.ensures.flushed

pub returns-clause-told : goal.returns-clause-told
returns-clause-told g c = on_one c.run-outcome.result c.finish.result _ c.finish.ensures.status c.finish.ensures.told
