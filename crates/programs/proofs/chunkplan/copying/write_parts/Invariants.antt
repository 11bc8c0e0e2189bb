use Rattle.programs.proofs.chunkplan.Common.{◌≡◌, ℕ, counted, text_as, written}
use Rattle.programs.specs.chunkplan.seen.Steps.{HasSent}
use Rattle.zarrs_chunk_questions.proofs.PartsAhead.{PartsHaveCome}
use Rattle.programs.proofs.chunkplan.Numbered.{Came}
use Rattle.programs.proofs.chunkplan.copying.write_parts.Given as goal

-- the next part has the number, and the texts of those that came were sent or are held back
abbrev pub invariant-loop-part : goal.invariant-loop-part
invariant-loop-part g l =
    (begin : ℕ) → l.fn.first ≡ counted begin → (n : ℕ) × (l.number ≡ counted n)
    × HasSent
    (Came (λ n. text_as l.fn.form (counted n)) begin
    (PartsHaveCome l.fn.walk l.part-iterator) n)
    (written g.W.Write.contents l.initial.sink) (written g.W.Write.contents l.sink)
