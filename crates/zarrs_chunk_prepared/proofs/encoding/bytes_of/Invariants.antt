use Rattle.std.proofs.Common.{◌≡◌, ◌<◌, ℕ, get_or, take}
use Rattle.zarrs_chunk_prepared.proofs.encoding.bytes_of.Given as goal

-- the bytes are the numbers so far
abbrev pub invariant-loop-number : goal.invariant-loop-number
invariant-loop-number l =
    (l.bytes.items ≡ take l.number-index l.numbers) × ((k : ℕ) → k < l.number-index → get_or l.numbers k 0 < 256)
