use Rattle.std.proofs.Common.{◌≡◌, ◌++◌, ◌-◌, ◌^◌, ◌≤◌, ℕ, List, Some, length, vec_len}
use Rattle.streams.specs.Watched.{has_failed, watched}
use Rattle.streams.specs.seen.Lines.{left}
use Rattle.streams.proofs.LineBytes.{IsPartOfLine}
use Rattle.streams.proofs.lines.Lines.read_line.Given as goal

-- some of the line was taken, and no read failed
abbrev pub invariant-loop-byte : goal.invariant-loop-byte
invariant-loop-byte g l =
    ((bytes : List ℕ) → left l.initial.self (g.R.Read.remaining (watched l.initial.reader)) ≡ Some bytes
    → (rest : List ℕ) × (left l.self (g.R.Read.remaining (watched l.reader)) ≡ Some rest)
    × IsPartOfLine l.initial.line.items l.line.items bytes rest)
    × (length l.initial.line.items ≤ length l.line.items)
    × (has_failed l.reader ≡ has_failed l.initial.reader)
    × ((text : List ℕ) × (l.line.items ≡ l.initial.line.items ++ text))

-- a Vec holds less than 2 ^ 63 bytes
abbrev pub decreases-loop-byte : goal.decreases-loop-byte
decreases-loop-byte g l = 2 ^ 64 - vec_len l.line
