use Rattle.programs.proofs.chunkplan.Common.{drop, HasText, value}
use Rattle.programs.proofs.chunkplan.product.numeral.Given as goal

-- the text is that of the digits so far
abbrev pub invariant-loop-place : goal.invariant-loop-place
invariant-loop-place l = HasText (value (drop l.place l.digits)) l.text.items
