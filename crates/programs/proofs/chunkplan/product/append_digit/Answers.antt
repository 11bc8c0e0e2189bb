use Rattle.programs.proofs.chunkplan.Common.{◌≡◌, ◌≤◌, ◌<◌, inl, inr, rules, ⊎_elim, arith, cases_lt}
use Rattle.programs.proofs.chunkplan.Digits.{written}
use Rattle.programs.proofs.chunkplan.product.append_digit.Goals.{else-digit-eq0-via-then-digit-eq0+else-is_empty, else-digit-eq0-via-else-digit-eq0}
use Rattle.programs.proofs.chunkplan.product.append_digit.Goals as goal

pub returns : goal.returns
returns c = λ n has.
    written n c.args.digit c.args.text.now.items c.push.new.self.items has c.requires
    (elim c.else-digit-eq0.branch [
      | else-digit-eq0-via-then-digit-eq0+else-is_empty w ↦ inr (search rules)
      | else-digit-eq0-via-else-digit-eq0 w ↦
          inl
          (⊎_elim (λ (more : 0 < c.args.digit). more)
          (λ (le : c.args.digit ≤ 0). let same : c.args.digit ≡ 0 = omega arith in absurd (w.if-digit-eq0.false same))
          (cases_lt 0 c.args.digit))
    ])
    c.in_ok-push.ensures.items
