use Rattle.programs.proofs.chunkplan.Common.{◌≡◌, ◌+◌, ◌*◌, ◌≤◌, drop, AreDigits, value, value_with}
use Rattle.programs.proofs.chunkplan.product.times.Given as goal

-- with what is carried, the digits so far are those of the product, as far as the other digits aren't multiplied yet
abbrev pub invariant-loop-digit : goal.invariant-loop-digit
invariant-loop-digit l =
    AreDigits l.more.items × (l.carry ≤ l.factor)
    × (value_with l.more.items (l.carry + l.factor * value (drop l.digit-index l.digits)) ≡ l.factor * value l.digits)

-- with what is still carried, they are those of the product
abbrev pub invariant-loop-carry : goal.invariant-loop-carry
invariant-loop-carry l = AreDigits l.more.items × (value_with l.more.items l.carry ≡ l.factor * value l.digits)

abbrev pub decreases-loop-carry : goal.decreases-loop-carry
decreases-loop-carry l = l.carry
