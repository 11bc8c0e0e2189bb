use Rattle.programs.proofs.chunkcalls.Common.{◌≡◌, ℕ, List, [], Some, has_failed, watched, written}
use Rattle.programs.proofs.chunkcalls.PartWay.{IsPartWay}
use Rattle.programs.proofs.chunkcalls.answering.answer_lines.Given as goal

-- the lines before the one that has begun are answered, no read or write failed, and nothing is held back of it
abbrev pub invariant-loop : goal.invariant-loop
invariant-loop g l =
    ((input : List ℕ) → g.R.Read.remaining (watched l.initial.reader) ≡ Some input
    → IsPartWay input (written g.W.Write.contents l.initial.sink) (g.R.Read.remaining (watched l.reader)) l.line.items
    (written g.W.Write.contents l.sink))
    × (has_failed l.reader ≡ has_failed l.initial.reader)
    × ((written g.W.Write.contents l.sink).failed ≡ (written g.W.Write.contents l.initial.sink).failed)
    × ((written g.W.Write.contents l.initial.sink).held_back ≡ [] → (written g.W.Write.contents l.sink).held_back ≡ [])
