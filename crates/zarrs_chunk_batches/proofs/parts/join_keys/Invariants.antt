use Rattle.std.proofs.Common.{◌≡◌, ◌+◌, drop, string_bytes}
use Rattle.zarrs_chunk_batches.specs.Batch.{AreTexts}
use Rattle.zarrs_chunk_batches.specs.seen.Parts.{IsKeyOf}
use Rattle.zarrs_chunk_batches.proofs.parts.join_keys.Given as goal

-- the keys of the parts so far, and the offsets behind theirs
abbrev pub invariant-loop-number : goal.invariant-loop-number
invariant-loop-number l = record {
  keys : AreTexts (IsKeyOf l.parts) l.number (string_bytes l.keys) l.offsets;
  behind : drop (l.number + 1) l.offsets ≡ drop (l.number + 1) l.initial.offsets;
}
