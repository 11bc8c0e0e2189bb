use Rattle.std.proofs.Common.{◌≡◌, codes, true}
use Rattle.streams.specs.Watched.{has_failed, watched}
use Rattle.streams.specs.declared.stream_fault.StreamFault.TheVariants.{Write as WriteFailed}
use Rattle.streams.proofs.Known.{for_known}
use Rattle.streams.proofs.Told.{no_memory, on_err, written_unless_failed}
use Rattle.streams.proofs.transfer.tell.Goals as goal

pub returns-in-Err-clause-told : goal.returns-in-Err-clause-told
returns-in-Err-clause-told g c =
    let write = c.write_all-in-Err in
    for_known (g.W.Write.contents (watched c.args.errors.now)) _ (λ held is. (
      codes "out of memory\n",
      no_memory c.args.program.now,
      written_unless_failed write.result (codes "out of memory\n") held (g.W.Write.contents (watched write.new.writer)) (has_failed c.args.errors.now)
          (has_failed write.new.writer) (rw is at write.ensures.ok) write.ensures.unfailed (rw is at write.ensures.err)
          (on_err write.result (λ fault. fault ≡ WriteFailed) (has_failed write.new.writer ≡ true) write.ensures.failed),
    ))
