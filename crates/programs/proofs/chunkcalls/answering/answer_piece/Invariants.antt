use Rattle.programs.proofs.chunkcalls.Common.{◌≡◌, ℕ, List, take, HasAnsweredPiece, IsBegun, written}
use Rattle.programs.proofs.chunkcalls.answering.answer_piece.Given as goal

-- the lines that ended in the bytes so far are answered, and no write failed
abbrev pub invariant-loop-byte : goal.invariant-loop-byte
invariant-loop-byte g l =
    ((whole : List ℕ) → IsBegun whole l.initial.line.items → HasAnsweredPiece whole (take l.byte-index l.piece) l.line.items
    (written g.W.Write.contents l.initial.sink) (written g.W.Write.contents l.sink))
    × ((written g.W.Write.contents l.sink).failed ≡ (written g.W.Write.contents l.initial.sink).failed)
