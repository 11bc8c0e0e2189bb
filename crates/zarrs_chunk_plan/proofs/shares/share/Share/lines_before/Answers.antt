use Rattle.zarrs_chunk_plan.proofs.Common.{◌≡◌, ◌∙◌, ◌+◌, ◌*◌, ◌/◌, ◌%◌, ◌≤◌, Some, ap, sym, ⊎_elim, arith, greatest}
use Rattle.zarrs_chunk_plan.proofs.shares.BeforeShares.{told_before}
use Rattle.zarrs_chunk_plan.proofs.shares.share.Share.lines_before.Goals as goal

pub returns-in_err-whole : goal.returns-in_err-whole
returns-in_err-whole c = λ all is.
    let share = c.args.self.now in
    let small : share.of ≤ greatest = omega (arith, c.fits-self) in
    c.from_residual.ensures
    ∙ sym (⊎_elim (λ (fits, told). absurd (c.in_err-whole.ensures (omega arith))) (λ (past, none). none)
    (told_before share.number share.of all c.args.count (omega arith) small is))

pub returns-in_err-before : goal.returns-in_err-before
returns-in_err-before c = λ all is.
    let share = c.args.self.now in
    let small : share.of ≤ greatest = omega (arith, c.fits-self) in
    c.from_residual-in_err-before.ensures
    ∙ sym (⊎_elim (λ (fits, told). absurd (c.in_err-before.ensures (omega arith))) (λ (past, none). none)
    (told_before share.number share.of all c.args.count (omega arith) small is))

pub returns-then-before : goal.returns-then-before
returns-then-before c = λ all is.
    let share = c.args.self.now in
    let small : share.of ≤ greatest = omega (arith, c.fits-self) in
    ⊎_elim
    (λ (fits, told).
    let same : c.in_ok-before.before ≡ c.args.count / share.of * share.number + c.args.count % share.of * share.number / share.of = omega arith in
    ap Some same ∙ sym told)
    (λ (past, none). absurd (omega arith)) (told_before share.number share.of all c.args.count (omega arith) small is)

pub returns-else-before : goal.returns-else-before
returns-else-before c = λ all is.
    let share = c.args.self.now in
    let small : share.of ≤ greatest = omega (arith, c.fits-self) in
    ⊎_elim (λ (fits, told). absurd (omega arith)) (λ (past, none). sym none)
    (told_before share.number share.of all c.args.count (omega arith) small is)
