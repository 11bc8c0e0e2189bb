use Rattle.std.proofs.Common.{string_bytes}
use Rattle.zarrs_chunk_batches.specs.Batch.{AreKeys}
use Rattle.zarrs_chunk_batches.proofs.keys.append_keys.Given as goal

-- the keys of the chunks so far
abbrev pub invariant-loop-number : goal.invariant-loop-number
invariant-loop-number g l =
    AreKeys (g.E.ChunkKeyEncodingTraits.is_key l.encoding) l.dimensionality l.number l.chunks (string_bytes l.keys) l.offsets
