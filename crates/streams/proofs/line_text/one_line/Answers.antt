use Rattle.std.proofs.Common.{◌∙◌, ◌∷◌, [], ◌++◌, ap, subst, sym}
use Rattle.streams.specs.OneLine.{IsOneLine}
use Rattle.streams.proofs.OneLines.{is_one_line}
use Rattle.streams.proofs.line_text.one_line.Goals as goal

pub returns-clause-one : goal.returns-clause-one
returns-clause-one c =
    subst IsOneLine (sym (c.in_ok-push.ensures.items ∙ ap (λ line. line ++ 10 ∷ []) c.in_ok-line.ensures)) (is_one_line c.args.text.items)
