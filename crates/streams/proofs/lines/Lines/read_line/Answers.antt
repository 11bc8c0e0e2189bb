use Rattle.std.proofs.Common.{◌≡◌, ◌∙◌, ◌++◌, ap, ap₂, append-nil, append_assoc, arith, length, length-append, sym, ◌∷◌, [], Some}
use Rattle.std.proofs.lemmas.Result.{err_from_is_err_and}
use Rattle.streams.specs.Watched.{watched}
use Rattle.streams.specs.OneLine.{line_feeds}
use Rattle.streams.specs.seen.Lines.{left}
use Rattle.streams.proofs.Known.{for_known}
use Rattle.streams.proofs.LineBytes.{at_end, last_byte, no_more_bytes, one_more_byte}
use Rattle.streams.proofs.lines.Lines.read_line.Goals as goal

pub returns-in_err-byte-clause-cut : goal.returns-in_err-byte-clause-cut
returns-in_err-byte-clause-cut g c =
    let p = err_from_is_err_and c.from_residual.result c.from_residual.ensures.1 in
    rw (p.1, p.2) (λ is_read. for_known (left c.args.self.now (g.R.Read.remaining (watched c.args.reader.now))) _ (λ bytes is.
    let (before, is_left, part) = c.loop-byte.invariant.0 bytes is in
    (part.begun, before, part.whole, part.unended, part.line_is, c.in_err-byte.ensures.kept is_read before is_left)))

pub returns-then-byte-eq10-clause-line : goal.returns-then-byte-eq10-clause-line
returns-then-byte-eq10-clause-line g c =
    for_known (left c.args.self.now (g.R.Read.remaining (watched c.args.reader.now))) _ (λ bytes is.
    let (before, is_left, part) = c.loop-byte.invariant.0 bytes is in
    let (rest, is_byte, now) = rw c.in-Some.is at (c.in_ok-byte.ensures.next before is_left) in
    let last = last_byte c.args.line.now.items c.loop-byte.line.items bytes c.in-Some.byte rest c.if-byte-eq10.true (rw is_byte at part) in
    c.in_ok-push.ensures.items ∙ last.0)

pub returns-then-byte-eq10-clause-behind : goal.returns-then-byte-eq10-clause-behind
returns-then-byte-eq10-clause-behind g c =
    for_known (left c.args.self.now (g.R.Read.remaining (watched c.args.reader.now))) _ (λ bytes is.
    let (before, is_left, part) = c.loop-byte.invariant.0 bytes is in
    let (rest, is_byte, now) = rw c.in-Some.is at (c.in_ok-byte.ensures.next before is_left) in
    let last = last_byte c.args.line.now.items c.loop-byte.line.items bytes c.in-Some.byte rest c.if-byte-eq10.true (rw is_byte at part) in
    now ∙ ap Some last.1)

pub returns-then-byte-eq10-clause-ended : goal.returns-then-byte-eq10-clause-ended
returns-then-byte-eq10-clause-ended g c = λ _.
    let (text, is) = c.loop-byte.invariant.3 in
    let feed : c.in-Some.byte ≡ 10 = c.if-byte-eq10.true in (
      text,
      c.in_ok-push.ensures.items ∙ ap₂ (λ items byte. items ++ byte ∷ []) is feed ∙ append_assoc c.args.line.now.items text (10 ∷ []),
    )

pub loop-byte-preserved : goal.loop-byte-preserved
loop-byte-preserved g c =
    let many = length-append c.loop-byte.line.items (c.in-Some.byte ∷ []) in (
      λ bytes is.
          let (before, is_left, part) = c.loop-byte.invariant.0 bytes is in
          let (rest, is_byte, now) = rw c.in-Some.is at (c.in_ok-byte.ensures.next before is_left) in (
            rest,
            now,
            rw c.in_ok-push.ensures.items
                (one_more_byte c.args.line.now.items c.loop-byte.line.items bytes c.in-Some.byte rest c.if-byte-eq10.false (rw is_byte at part)),
          ),
      omega (arith, c.loop-byte.invariant.1, ap length c.in_ok-push.ensures.items),
      c.in_ok-byte.ensures.failed ∙ c.loop-byte.invariant.2,
      (
        c.loop-byte.invariant.3.0 ++ c.in-Some.byte ∷ [],
        c.in_ok-push.ensures.items ∙ ap (λ items. items ++ c.in-Some.byte ∷ []) c.loop-byte.invariant.3.1
            ∙ append_assoc c.args.line.now.items c.loop-byte.invariant.3.0 (c.in-Some.byte ∷ []),
      ),
    )

pub returns-clause-line : goal.returns-clause-line
returns-clause-line g c =
    for_known (left c.args.self.now (g.R.Read.remaining (watched c.args.reader.now))) _ (λ bytes is.
    let (before, is_left, part) = c.loop-byte.invariant.0 bytes is in
    let (none, now) = at_end before _ _ c.in_default.not-Some (c.in_ok-byte.ensures.next before is_left) in
    (no_more_bytes c.args.line.now.items c.loop-byte.line.items bytes (rw none at part)).0)

pub returns-clause-behind : goal.returns-clause-behind
returns-clause-behind g c =
    for_known (left c.args.self.now (g.R.Read.remaining (watched c.args.reader.now))) _ (λ bytes is.
    let (before, is_left, part) = c.loop-byte.invariant.0 bytes is in
    let (none, now) = at_end before _ _ c.in_default.not-Some (c.in_ok-byte.ensures.next before is_left) in
    now ∙ ap Some (no_more_bytes c.args.line.now.items c.loop-byte.line.items bytes (rw none at part)).1)

pub returns-clause-end : goal.returns-clause-end
returns-clause-end g c = λ _.
    for_known (left c.args.self.now (g.R.Read.remaining (watched c.args.reader.now))) _ (λ bytes is.
    let (before, is_left, part) = c.loop-byte.invariant.0 bytes is in
    let (none, now) = at_end before _ _ c.in_default.not-Some (c.in_ok-byte.ensures.next before is_left) in
    sym (no_more_bytes c.args.line.now.items c.loop-byte.line.items bytes (rw none at part)).1)

pub returns-clause-unended : goal.returns-clause-unended
returns-clause-unended g c = λ _.
    for_known (left c.args.self.now (g.R.Read.remaining (watched c.args.reader.now))) _ (λ bytes is.
    let (before, is_left, part) = c.loop-byte.invariant.0 bytes is in
    let (none, now) = at_end before _ _ c.in_default.not-Some (c.in_ok-byte.ensures.next before is_left) in
    ap line_feeds (part.whole ∙ ap (λ xs. part.begun ++ xs) none ∙ append-nil part.begun) ∙ part.unended)
