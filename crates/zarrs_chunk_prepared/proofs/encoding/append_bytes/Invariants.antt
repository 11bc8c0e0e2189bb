use Rattle.std.proofs.Common.{◌≡◌, ◌++◌, take}
use Rattle.zarrs_chunk_prepared.proofs.encoding.append_bytes.Given as goal

-- the bytes so far are appended
abbrev pub invariant-loop-byte : goal.invariant-loop-byte
invariant-loop-byte l = l.numbers.items ≡ l.fn.numbers.items ++ take l.byte-index l.bytes
