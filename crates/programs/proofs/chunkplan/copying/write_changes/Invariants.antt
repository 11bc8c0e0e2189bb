use Rattle.programs.proofs.chunkplan.Common.{◌≡◌, ℕ, length, ChangesHaveCome, counted, all_changes, change_line, written}
use Rattle.programs.specs.chunkplan.seen.Opened.{dimensions_in, key_in}
use Rattle.programs.specs.chunkplan.seen.Steps.{HasSent}
use Rattle.programs.proofs.chunkplan.Numbered.{Came}
use Rattle.programs.proofs.chunkplan.copying.write_changes.Given as goal

-- the next change has the number, and the lines of those that came were sent or are held back
abbrev pub invariant-loop-change : goal.invariant-loop-change
invariant-loop-change g l =
    (n : ℕ) × (l.number ≡ counted n)
    × HasSent
    (Came (λ n. change_line (counted n) (counted (length (all_changes l.fn.walk)))) 0
    (ChangesHaveCome dimensions_in dimensions_in key_in l.fn.walk l.change-iterator) n)
    (written g.W.Write.contents l.initial.sink) (written g.W.Write.contents l.sink)
