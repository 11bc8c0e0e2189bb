use Rattle.std.proofs.Common.{◌≡◌, ◌∙◌, ◌⊎◌, Err, subst}
use Rattle.std.proofs.lemmas.Result.{err_from_is_err_and}
use Rattle.streams.specs.Watched.{watched}
use Rattle.streams.proofs.Known.{for_both}
use Rattle.documents.specs.chunkwhere.Run.{text_of}
use Rattle.documents.specs.declared.chunkwhere.run_fault.RunFault.TheVariants.{Memory}
use Rattle.documents.proofs.chunkwhere.Outcomes.{leaves_no_text, leaves_some, read_stops}
use Rattle.documents.proofs.chunkwhere.run.Goals as goal

pub returns-in_err-input-clause-leaves : goal.returns-in_err-input-clause-leaves
returns-in_err-input-clause-leaves g c =
    let p = err_from_is_err_and c.from_residual.result c.from_residual.ensures.1 in
    rw (p.1, p.2)
    (for_both (g.R.Read.remaining (watched c.args.reader.now)) (g.W.Write.contents (watched c.args.writer.now)) _
    (λ input held is_input is_held not_read not_written.
    read_stops input held _ _ _ c.in_err-input.ensures.failed not_read (is_held, not_written)))

pub returns-in_err-text-clause-leaves : goal.returns-in_err-text-clause-leaves
returns-in_err-text-clause-leaves g c =
    let p = err_from_is_err_and c.from_residual-in_err-text.result c.from_residual-in_err-text.ensures.1 in
    rw (p.1, p.2)
    (for_both (g.R.Read.remaining (watched c.args.reader.now)) (g.W.Write.contents (watched c.args.writer.now)) _
    (λ input held is_input is_held not_read not_written.
    let (read, left) = rw is_input at c.in_ok-input.ensures.bytes in
    leaves_no_text input held _ _
    (subst (λ bytes. (c.in_err-text.field-0.0 ≡ Memory) ⊎ text_of bytes (Err c.in_err-text.field-0.0)) read c.in_err-text.ensures)
    (left, c.in_ok-input.ensures.failed ∙ not_read) (is_held, not_written)))

pub returns-in_err-write_all-clause-leaves : goal.returns-in_err-write_all-clause-leaves
returns-in_err-write_all-clause-leaves g c =
    let p = err_from_is_err_and c.from_residual-in_err-write_all.result c.from_residual-in_err-write_all.ensures.1 in
    rw (p.1, p.2)
    (for_both (g.R.Read.remaining (watched c.args.reader.now)) (g.W.Write.contents (watched c.args.writer.now)) _
    (λ input held is_input is_held not_read not_written.
    let (read, left) = rw is_input at c.in_ok-input.ensures.bytes in
    leaves_some input held c.as_bytes.result.now _ _ (rw (read, ← c.as_bytes.ensures.value) at c.in_ok-text.ensures)
    (left, c.in_ok-input.ensures.failed ∙ not_read) (rw is_held at c.in_err-write_all.ensures.err) c.in_err-write_all.ensures.failed))

pub returns-clause-leaves : goal.returns-clause-leaves
returns-clause-leaves g c =
    for_both (g.R.Read.remaining (watched c.args.reader.now)) (g.W.Write.contents (watched c.args.writer.now)) _
    (λ input held is_input is_held not_read not_written.
    let (read, left) = rw is_input at c.in_ok-input.ensures.bytes in (
      (left, c.in_ok-input.ensures.failed ∙ not_read),
      c.as_bytes.result.now,
      rw (read, ← c.as_bytes.ensures.value) at c.in_ok-text.ensures,
      (rw is_held at c.in_ok-write_all.ensures.ok, c.in_ok-write_all.ensures.unfailed ∙ not_written),
    ))
