use Rattle.std.proofs.Common.{◌∙◌, ◌∷◌, ◌++◌, [], ap, sym}
use Rattle.programs.proofs.chunkplan.Unended.{unended_front, unended_none, unended_whole}
use Rattle.programs.proofs.chunkplan.keys.without_feed.Goals as goal

pub returns-in-Some : goal.returns-in-Some
returns-in-Some c = λ bytes is.
    let split = c.in-Some.ensures.cases.0 in
    sym (unended_front bytes c.in-Some.front.now (sym is ∙ split ∙ ap (λ last. c.in-Some.front.now ++ last ∷ []) c.if-last-eq10.true))

pub returns-in_default : goal.returns-in_default
returns-in_default c = λ bytes is.
    is ∙ sym (unended_whole bytes c.in-Some.front.now c.in-Some.last.now c.if-last-eq10.false (sym is ∙ c.in-Some.ensures.cases.0))

pub returns-in_default-2 : goal.returns-in_default-2
returns-in_default-2 c = λ bytes is. is ∙ sym (unended_none bytes c.args.line.now (rw c.in_default.is at c.split_last.ensures.cases) is)
