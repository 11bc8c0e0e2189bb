use Rattle.programs.proofs.chunkplan.Common.{◌≡◌, ◌∙◌, ◌++◌, [], ap, refl, drop_through, take_through, watched, behind, here, unended, left}
use Rattle.programs.proofs.chunkplan.Common.{for_known, nothing_left}
use Rattle.programs.specs.chunkplan.seen.Resume.{with_line}
use Rattle.programs.proofs.chunkplan.Exits.{handed}
use Rattle.programs.proofs.chunkplan.KeyLines.{key_stops, no_more_lines, one_more_line, reading_stops_keys}
use Rattle.programs.proofs.chunkplan.keys.note_keys.Goals as goal

pub loop-number-init : goal.loop-number-init
loop-number-init g c = (λ bytes is. ([], bytes, is, λ others are. are, λ targets noted. noted, λ number first. first), c.new-line.ensures.items, refl)

pub returns-in_err-ended-clause-refused : goal.returns-in_err-ended-clause-refused
returns-in_err-ended-clause-refused g c =
    rw (handed _ _ c.from_residual.ensures.1)
    (reading_stops_keys _ (left c.args.lines.now (g.R.Read.remaining (watched c.args.reader.now))) _ _ _ c.in_err-ended.ensures.failed
    c.loop-number.invariant.2)

pub returns-in_err-note_line-clause-refused : goal.returns-in_err-note_line-clause-refused
returns-in_err-note_line-clause-refused g c =
    rw (handed _ _ c.from_residual-in_err-note_line.ensures.1)
    (key_stops _ (left c.args.lines.now (g.R.Read.remaining (watched c.args.reader.now))) _ _ c.loop-number.number c.without_feed.result.now
    (c.in_ok-ended.ensures.failed ∙ c.loop-number.invariant.2) c.in_err-note_line.ensures.refused
    (λ not_text. for_known (left c.args.lines.now (g.R.Read.remaining (watched c.args.reader.now))) _ (λ bytes is.
    let (came, rest, is_left, have, notes, first) = c.loop-number.invariant.0 bytes is in
    let line_is = (rw is_left at c.in_ok-ended.ensures.line) ∙ ap (λ xs. xs ++ take_through 10 rest) c.loop-number.invariant.1 in
    let key : c.without_feed.result.now ≡ unended rest = c.without_feed.ensures rest (c.deref.ensures.value ∙ line_is) in
    first _ (here c.loop-number.number rest (rw key at not_text)))))

pub returns-then-not-ended-clause-noted : goal.returns-then-not-ended-clause-noted
returns-then-not-ended-clause-noted g c = λ bytes targets is noted.
    let (came, rest, is_left, have, notes, first) = c.loop-number.invariant.0 bytes is in
    let line_is = (rw is_left at c.in_ok-ended.ensures.line) ∙ ap (λ xs. xs ++ take_through 10 rest) c.loop-number.invariant.1 in
    let key : c.without_feed.result.now ≡ unended rest = c.without_feed.ensures rest (c.deref.ensures.value ∙ line_is) in
    let none : drop_through 10 rest ≡ [] = rw is_left at (c.in_ok-ended.ensures.end c.if-not-ended.true) in (
      with_line came (unended rest),
      no_more_lines bytes (with_line came (unended rest)) (rw none at (one_more_line bytes came rest have)),
      rw key at (c.in_ok-note_line.ensures.noted targets came (notes targets noted)),
    )

pub returns-then-not-ended-clause-end : goal.returns-then-not-ended-clause-end
returns-then-not-ended-clause-end g c =
    for_known (left c.args.lines.now (g.R.Read.remaining (watched c.args.reader.now))) _ (λ bytes is.
    let (came, rest, is_left, have, notes, first) = c.loop-number.invariant.0 bytes is in
    let none : drop_through 10 rest ≡ [] = rw is_left at (c.in_ok-ended.ensures.end c.if-not-ended.true) in
    nothing_left c.read_line.new.self _ (rw (is_left, none) at c.in_ok-ended.ensures.behind))

pub returns-then-not-ended-clause-failed : goal.returns-then-not-ended-clause-failed
returns-then-not-ended-clause-failed g c = c.in_ok-ended.ensures.failed ∙ c.loop-number.invariant.2

pub loop-number-preserved : goal.loop-number-preserved
loop-number-preserved g c = (
  λ bytes is.
      let (came, rest, is_left, have, notes, first) = c.loop-number.invariant.0 bytes is in
      let line_is = (rw is_left at c.in_ok-ended.ensures.line) ∙ ap (λ xs. xs ++ take_through 10 rest) c.loop-number.invariant.1 in
      let key : c.without_feed.result.now ≡ unended rest = c.without_feed.ensures rest (c.deref.ensures.value ∙ line_is) in (
        with_line came (unended rest),
        drop_through 10 rest,
        rw is_left at c.in_ok-ended.ensures.behind,
        one_more_line bytes came rest have,
        λ targets noted. rw key at (c.in_ok-note_line.ensures.noted targets came (notes targets noted)),
        λ number is_first. first number (behind c.loop-number.number rest number (rw key at c.in_ok-note_line.ensures.text) is_first),
      ),
  c.clear.ensures.items,
  c.in_ok-ended.ensures.failed ∙ c.loop-number.invariant.2,
)

pub returns-clause-refused : goal.returns-clause-refused
returns-clause-refused g c = c.loop-number.invariant.2
