use Rattle.programs.proofs.chunkplan.Common.{◌≡◌, ◌∙◌, ◌+◌, ◌*◌, ◌/◌, ◌%◌, ap, arith, sym}
use Rattle.std.proofs.Common.{mul_comm}
use Rattle.programs.proofs.chunkplan.Digits.{times_split}
use Rattle.programs.proofs.chunkplan.product.digit_times.Goals as goal

pub returns-clause-value : goal.returns-clause-value
returns-clause-value c =
    let digit = c.args.digit in
    let factor = c.args.factor in
    let whole : factor % 10 + 10 * (factor / 10) ≡ factor = omega arith in
    let split : digit * (factor % 10 + 10 * (factor / 10)) ≡ factor % 10 * digit + 10 * (digit * (factor / 10)) = times_split digit (factor % 10) (factor / 10) in
    let same : digit * factor ≡ factor % 10 * digit + 10 * (digit * (factor / 10)) = ap (λ n. digit * n) (sym whole) ∙ split in
    omega (arith, same, mul_comm (factor % 10) digit)
