use Rattle.programs.proofs.chunkplan.Common.{◌≡◌, take, product, AreDigits, value}
use Rattle.programs.proofs.chunkplan.product.product_text.Given as goal

-- the digits are those of the product of the factors so far
abbrev pub invariant-loop-factor : goal.invariant-loop-factor
invariant-loop-factor l = AreDigits l.digits.items × (value l.digits.items ≡ product (take l.factor-index l.factors))
