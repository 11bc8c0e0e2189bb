use Rattle.programs.proofs.chunkplan.Common.{◌≡◌, ◌≤◌, ◌+◌, length, closed_length}
use Rattle.programs.proofs.chunkplan.keys.closed_length.Given as goal

-- what was counted and what is to be counted of the rest are all
abbrev pub invariant-loop-byte : goal.invariant-loop-byte
invariant-loop-byte l =
    (l.length + closed_length l.braces l.rest ≡ closed_length 0 l.fn.input)
    × (l.length + length l.rest ≡ length l.fn.input)
    × (l.braces ≤ l.length)

abbrev pub decreases-loop-byte : goal.decreases-loop-byte
decreases-loop-byte l = length l.rest
