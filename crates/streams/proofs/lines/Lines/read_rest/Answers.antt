use Rattle.std.proofs.Common.{◌≡◌, ◌∙◌, ◌++◌, [], ap, append-nil, append_assoc, refl, sym}
use Rattle.std.proofs.lemmas.Result.{err_from_is_err_and}
use Rattle.std.specs.Io.BufRead.{drop_through, take_through}
use Rattle.streams.specs.Watched.{watched}
use Rattle.streams.specs.seen.Lines.{left}
use Rattle.streams.proofs.Known.{for_known}
use Rattle.streams.proofs.LineBytes.{both_parts, nothing_left}
use Rattle.streams.proofs.lines.Lines.read_rest.Goals as goal

pub loop-init : goal.loop-init
loop-init g c = (λ bytes is. ([], bytes, refl, sym (append-nil c.args.bytes.now.items), is), refl)

pub loop-preserved : goal.loop-preserved
loop-preserved g c = (
  λ bytes is.
      let (begun, rest, same, has, is_left) = c.loop.invariant.0 bytes is in
      let line = take_through 10 rest in (
        begun ++ line,
        drop_through 10 rest,
        same ∙ ap (λ xs. begun ++ xs) (both_parts rest) ∙ sym (append_assoc begun line (drop_through 10 rest)),
        (rw is_left at c.in_ok-read_line.ensures.line) ∙ ap (λ xs. xs ++ line) has ∙ append_assoc c.args.bytes.now.items begun line,
        rw is_left at c.in_ok-read_line.ensures.behind,
      ),
  c.in_ok-read_line.ensures.failed ∙ c.loop.invariant.1,
)

pub returns-clause-rest : goal.returns-clause-rest
returns-clause-rest g c =
    for_known (left c.args.self.now (g.R.Read.remaining (watched c.args.reader.now))) _ (λ bytes is.
    let (begun, rest, same, has, is_left) = c.loop.invariant.0 bytes is in
    let none : drop_through 10 rest ≡ [] = rw is_left at (c.in_ok-read_line.ensures.end c.if-branch.false) in
    let all = both_parts rest ∙ ap (λ xs. take_through 10 rest ++ xs) none ∙ append-nil (take_through 10 rest) in
    (rw is_left at c.in_ok-read_line.ensures.line) ∙ ap (λ xs. xs ++ take_through 10 rest) has
    ∙ append_assoc c.args.bytes.now.items begun (take_through 10 rest) ∙ ap (λ xs. c.args.bytes.now.items ++ (begun ++ xs)) (sym all)
    ∙ ap (λ xs. c.args.bytes.now.items ++ xs) (sym same))

pub returns-clause-behind : goal.returns-clause-behind
returns-clause-behind g c =
    for_known (left c.args.self.now (g.R.Read.remaining (watched c.args.reader.now))) _ (λ bytes is.
    let (begun, rest, same, has, is_left) = c.loop.invariant.0 bytes is in
    let none : drop_through 10 rest ≡ [] = rw is_left at (c.in_ok-read_line.ensures.end c.if-branch.false) in
    rw (is_left, none) at c.in_ok-read_line.ensures.behind)

pub returns-clause-end : goal.returns-clause-end
returns-clause-end g c =
    for_known (left c.args.self.now (g.R.Read.remaining (watched c.args.reader.now))) _ (λ bytes is.
    let (begun, rest, same, has, is_left) = c.loop.invariant.0 bytes is in
    let none : drop_through 10 rest ≡ [] = rw is_left at (c.in_ok-read_line.ensures.end c.if-branch.false) in
    nothing_left c.read_line.new.self _ (rw (is_left, none) at c.in_ok-read_line.ensures.behind))

pub returns-in_err-read_line-clause-cut : goal.returns-in_err-read_line-clause-cut
returns-in_err-read_line-clause-cut g c =
    let p = err_from_is_err_and c.from_residual.result c.from_residual.ensures.1 in
    rw (p.1, p.2) (λ is_read. for_known (left c.args.self.now (g.R.Read.remaining (watched c.args.reader.now))) _ (λ bytes is.
    let (begun, rest, same, has, is_left) = c.loop.invariant.0 bytes is in
    let (more, behind, both, none, line, remaining) = rw is_left at (c.in_err-read_line.ensures.cut is_read) in (
      begun ++ more,
      behind,
      same ∙ ap (λ xs. begun ++ xs) both ∙ sym (append_assoc begun more behind),
      line ∙ ap (λ xs. xs ++ more) has ∙ append_assoc c.args.bytes.now.items begun more,
      remaining,
    )))
