use Rattle.programs.proofs.chunkplan.Common.{watched, for_known}
use Rattle.streams.proofs.Told.{on_one, on_zero}
use Rattle.programs.proofs.chunkplan.run_to_status.Goals as goal

pub returns-clause-outcome : goal.returns-clause-outcome
returns-clause-outcome g c =
    for_known (g.R.Read.remaining (watched c.args.reader.now)) _ (λ input is_input held all not_read not_written.
    (c.run-outcome.result, (rw is_input at c.run-outcome.ensures.leaves) held all not_read not_written, c.finish.ensures.status))

pub returns-clause-flushed : goal.returns-clause-flushed
returns-clause-flushed g c = on_zero c.run-outcome.result c.finish.result _ c.finish.ensures.status c.run-outcome.ensures.flushed

pub returns-clause-told : goal.returns-clause-told
returns-clause-told g c = on_one c.run-outcome.result c.finish.result _ c.finish.ensures.status c.finish.ensures.told
