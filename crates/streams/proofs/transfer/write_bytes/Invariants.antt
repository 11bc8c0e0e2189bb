use Rattle.std.proofs.Common.{◌≡◌, ℕ, List, ◌++◌, length}
use Rattle.std.specs.Io.KnownBytes.{Appends}
use Rattle.streams.specs.Watched.{watched, has_failed}
use Rattle.streams.proofs.transfer.write_bytes.Given as goal

-- what was written and what is left are all bytes, and no write failed
abbrev pub invariant-loop-rest : goal.invariant-loop-rest
invariant-loop-rest g l =
    ((written : List ℕ) × (l.fn.bytes ≡ written ++ l.rest)
    × Appends (g.W.Write.contents (watched l.initial.writer)) (g.W.Write.contents (watched l.writer)) written)
    × (has_failed l.writer ≡ has_failed l.initial.writer)

abbrev pub decreases-loop-rest : goal.decreases-loop-rest
decreases-loop-rest g l = length l.rest
