use Rattle.std.proofs.Common.{◌∙◌, ◌++◌, List, Option, Result, Ok, Err, OnErr, Some, ap, append_assoc, codes, sym, ℕ}
use Rattle.streams.proofs.Known.{for_known}
use Rattle.streams.specs.Watched.{watched}
use Rattle.streams.specs.Told.{HasBegunText}
use Rattle.programs.proofs.words.write_line.Goals as goal

on_err : {T E P : Type 0} (r : Result T E) → P → OnErr r P
on_err (Ok _) is = tt
on_err (Err _) is = is

-- two texts are written one behind the other: a beginning of the first was written, or the first and a beginning of the second
module _ (one other held : List ℕ) (holds : Option (List ℕ)) where
  of_first : HasBegunText one held holds → HasBegunText (one ++ other) held holds
  of_first (written, rest, parts, now) = (written, rest ++ other, ap (λ text. text ++ other) parts ∙ append_assoc written rest other, now)

  of_second : HasBegunText other (held ++ one) holds → HasBegunText (one ++ other) held holds
  of_second (written, rest, parts, now) =
      (one ++ written, rest, ap (λ text. one ++ text) parts ∙ sym (append_assoc one written rest), now ∙ ap Some (append_assoc held one written))

pub returns-in_err-write_all-clause-begun : goal.returns-in_err-write_all-clause-begun
returns-in_err-write_all-clause-begun g c =
    on_err c.from_residual.result (for_known (g.W.Write.contents (watched c.args.writer.now)) _ (λ held is.
    of_first c.args.text.now (codes "\n") held _ (rw (is, c.as_bytes.ensures.value) at c.in_err-write_all.ensures.err)))

pub returns-in_err-write_all-2-clause-begun : goal.returns-in_err-write_all-2-clause-begun
returns-in_err-write_all-2-clause-begun g c =
    on_err c.from_residual-in_err-write_all-2.result (for_known (g.W.Write.contents (watched c.args.writer.now)) _ (λ held is.
    let first = rw (is, c.as_bytes.ensures.value) at c.in_ok-write_all.ensures.ok in
    of_second c.args.text.now (codes "\n") held _ (rw first at c.in_err-write_all-2.ensures.err)))
