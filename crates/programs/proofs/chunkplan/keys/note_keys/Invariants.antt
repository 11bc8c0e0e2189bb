use Rattle.programs.proofs.chunkplan.Common.{◌≡◌, [], ℕ, List, Some, has_failed, watched, IsFirstNoText, left}
use Rattle.programs.specs.chunkplan.seen.Resume.{HaveNoted}
use Rattle.programs.specs.chunkplan.seen.Opened.{dimensions_of, key_of}
use Rattle.programs.proofs.chunkplan.KeyLines.{HaveCome}
use Rattle.programs.proofs.chunkplan.keys.note_keys.Given as goal

-- some keys were read and noted, the others are left, all lines so far are texts, and no read failed
abbrev pub invariant-loop-number : goal.invariant-loop-number
invariant-loop-number g l =
    ((bytes : List ℕ) → left l.initial.lines (g.R.Read.remaining (watched l.initial.reader)) ≡ Some bytes
    → (came : List (List ℕ)) × (rest : List ℕ) × (left l.lines (g.R.Read.remaining (watched l.reader)) ≡ Some rest) × HaveCome bytes came rest
    × ((targets : List (List ℕ))
    → HaveNoted (dimensions_of l.fn.target) (key_of l.fn.target) targets []
    l.initial.stored l.initial.unexpected.items
    → HaveNoted (dimensions_of l.fn.target) (key_of l.fn.target) targets came
    l.stored l.unexpected.items)
    × ((number : ℕ) → IsFirstNoText l.number rest number → IsFirstNoText 2 bytes number))
    × (l.line.items ≡ [])
    × (has_failed l.reader ≡ has_failed l.initial.reader)
