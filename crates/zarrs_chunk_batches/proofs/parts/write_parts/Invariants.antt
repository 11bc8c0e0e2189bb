use Rattle.std.proofs.Common.{◌≡◌}
use Rattle.zarrs_chunk_batches.specs.Parts.{AreListsKept, AreSameBuffers}
use Rattle.zarrs_chunk_batches.specs.seen.Parts.{AreWrittenBelow}
use Rattle.zarrs_chunk_batches.proofs.parts.write_parts.Given as goal

-- the parts so far are written, and nothing behind them
abbrev pub invariant-loop-number : goal.invariant-loop-number
invariant-loop-number l = record {
  written : AreWrittenBelow l.number l.width l.parts l.buffers;
  same_buffers : AreSameBuffers l.initial.buffers l.buffers;
  behind : AreListsKept l.width l.number l.initial.buffers l.buffers;
  text_kept : l.buffers.text.now ≡ l.initial.buffers.text.now;
  offsets_kept : l.buffers.offsets ≡ l.initial.buffers.offsets;
}
