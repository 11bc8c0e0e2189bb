use Rattle.programs.proofs.chunkcalls.Common.{◌≡◌, ℕ, false, List, Err, IfErr, Ok, OnErr, OnOk, Result, watched, StreamFault, Read, HoldsAll, Output}
use Rattle.programs.proofs.chunkcalls.Common.{written, for_known, HasAnsweredRead, HasBegunAnswers, HoldsAnswers}
use Rattle.streams.specs.Streams.{Streams}
use Rattle.programs.specs.chunkcalls.Run.{RunLeaves, TellsFailure}
use Rattle.streams.proofs.Told.{on_one, on_zero}
use Rattle.programs.proofs.chunkcalls.run_to_status.Goals as goal

-- what a run promises of each outcome, together
leaves : (input held : List ℕ) (before : Output) → HoldsAll held before → (outcome : Result (Unit {0}) StreamFault) (s : Streams)
    → OnOk outcome ((held : List ℕ) → HoldsAll held before → HoldsAnswers input held s.holds)
    → OnOk outcome (s.read_failed ≡ false) → OnOk outcome (s.write_failed ≡ false)
    → IfErr outcome (λ fault. TellsFailure fault false s.read_failed s.write_failed)
    → OnErr outcome ((held : List ℕ) → HoldsAll held before → HasBegunAnswers input held s.holds)
    → IfErr outcome (λ fault. fault ≡ Read → (held : List ℕ) → HoldsAll held before → HasAnsweredRead input held s.left s.holds)
    → RunLeaves input held outcome s
leaves input held before all (Ok u) s says read written failed begun at_read = (says held all, read, written)
leaves input held before all (Err fault) s says read written failed begun at_read = (failed, begun held all, λ is_read. at_read is_read held all)

pub returns-clause-outcome : goal.returns-clause-outcome
returns-clause-outcome g c =
    for_known (g.R.Read.remaining (watched c.args.reader.now)) _ (λ input is_input held all not_read not_written.
    let run = c.run-outcome.ensures in (
      c.run-outcome.result,
      leaves input held (written g.W.Write.contents c.args.sink.now) all c.run-outcome.result _ (rw is_input at run.says) (rw not_read at run.no_read_failed)
          (rw not_written at run.no_write_failed) (rw not_read at run.failed) (rw is_input at run.begun) (rw is_input at run.read),
      c.finish.ensures.status,
    ))

pub returns-clause-flushed : goal.returns-clause-flushed
returns-clause-flushed g c = on_zero c.run-outcome.result c.finish.result _ c.finish.ensures.status c.run-outcome.ensures.flushed

pub returns-clause-told : goal.returns-clause-told
returns-clause-told g c = on_one c.run-outcome.result c.finish.result _ c.finish.ensures.status c.finish.ensures.told
