use Rattle.std.proofs.Common.{◌≡◌, ◌-◌, ◌^◌, vec_len}
use Rattle.std.specs.Io.KnownBytes.{Consumes}
use Rattle.streams.specs.Watched.{watched, has_failed}
use Rattle.streams.proofs.transfer.read_to_end.Given as goal

-- the bytes so far were taken from the reader's front, and no read failed
abbrev pub invariant-loop-count : goal.invariant-loop-count
invariant-loop-count g l =
    Consumes (g.R.Read.remaining (watched l.initial.reader)) (g.R.Read.remaining (watched l.reader)) l.bytes.items
    × (has_failed l.reader ≡ has_failed l.initial.reader)

-- a Vec holds less than 2 ^ 63 bytes
abbrev pub decreases-loop-count : goal.decreases-loop-count
decreases-loop-count g l = 2 ^ 64 - vec_len l.bytes
