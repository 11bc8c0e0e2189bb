use Rattle.std.proofs.Common.{◌≡◌, ◌-◌, ◌^◌, ℕ, List, Some, vec_len}
use Rattle.streams.specs.Watched.{has_failed, watched}
use Rattle.streams.specs.seen.Lines.{HasBegun, left}
use Rattle.streams.proofs.lines.Lines.read_rest.Given as goal

-- what was taken and what is left are what there was, and no read failed
abbrev pub invariant-loop : goal.invariant-loop
invariant-loop g l =
    ((bytes : List ℕ) → left l.initial.self (g.R.Read.remaining (watched l.initial.reader)) ≡ Some bytes
    → HasBegun l.initial.bytes.items l.bytes.items bytes (left l.self (g.R.Read.remaining (watched l.reader))))
    × (has_failed l.reader ≡ has_failed l.initial.reader)

-- a Vec holds less than 2 ^ 63 bytes
abbrev pub decreases-loop : goal.decreases-loop
decreases-loop g l = 2 ^ 64 - vec_len l.bytes
