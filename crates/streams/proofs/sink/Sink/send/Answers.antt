use Rattle.std.proofs.Common.{◌∙◌, ◌++◌, sym}
use Rattle.std.proofs.lemmas.Result.{err_from_is_err_and}
use Rattle.streams.specs.Watched.{watched}
use Rattle.streams.specs.seen.Sent.{Output, written}
use Rattle.streams.proofs.Sent.{all_sent, some_sent, waits}
use Rattle.streams.proofs.sink.Sink.send.Goals as goal

pub returns-in_err-extend_from_slice-clause-sent : goal.returns-in_err-extend_from_slice-clause-sent
returns-in_err-extend_from_slice-clause-sent g c =
    let p = err_from_is_err_and c.from_residual.result c.from_residual.ensures.1 in
    let before : Output = written g.W.Write.contents c.args.self.now in
    (before.held_back ++ c.args.bytes.now, waits before c.args.bytes.now, rw p.1 tt)

pub returns-then-len-lt-ENOUGH-clause-sent : goal.returns-then-len-lt-ENOUGH-clause-sent
returns-then-len-lt-ENOUGH-clause-sent g c =
    let before : Output = written g.W.Write.contents c.args.self.now in
    (before.held_back ++ c.args.bytes.now, waits before c.args.bytes.now, sym c.in_ok-extend_from_slice.ensures.items)

pub returns-clause-sent : goal.returns-clause-sent
returns-clause-sent g c =
    let before : Output = written g.W.Write.contents c.args.self.now in (
      _,
      all_sent before (g.W.Write.contents (watched c.write_bytes.new.writer)) c.args.bytes.now c.deref.result.now
          (c.deref.ensures.value ∙ c.in_ok-extend_from_slice.ensures.items) c.in_ok-write_bytes.ensures.ok,
      sym c.clear.ensures.items,
    )

pub returns-in_err-write_bytes-clause-sent : goal.returns-in_err-write_bytes-clause-sent
returns-in_err-write_bytes-clause-sent g c =
    let p = err_from_is_err_and c.from_residual-in_err-write_bytes.result c.from_residual-in_err-write_bytes.ensures.1 in
    let before : Output = written g.W.Write.contents c.args.self.now in
    let (rest, sent) = some_sent before (g.W.Write.contents (watched c.write_bytes.new.writer)) c.args.bytes.now c.deref.result.now
    (c.deref.ensures.value ∙ c.in_ok-extend_from_slice.ensures.items) c.in_err-write_bytes.ensures.err
    in
    (rest, sent, rw p.1 tt)
