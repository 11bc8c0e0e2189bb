use Rattle.std.proofs.Common.{◌-◌, ℕ, List, inl, inr, length, ⊎_elim, subst, sym}
use Rattle.std.proofs.lemmas.Result.{err_from_is_err_and}
use Rattle.zarrs_chunk_keys.specs.ChunkKey.{IsKey}
use Rattle.zarrs_chunk_keys.specs.seen.Encodings.{encoding_in}
use Rattle.zarrs_chunk_batches.specs.Batch.{AreKeys}
use Rattle.zarrs_chunk_batches.specs.Calls.{IsEndFor}
use Rattle.zarrs_chunk_batches.specs.KeyCalls.{keys_request}
use Rattle.zarrs_chunk_batches.proofs.Ends.{ends_for, in_front}
use Rattle.zarrs_chunk_batches.proofs.key_calls.keys_in.Goals as goal

pub returns-in_err-encoding-clause-ends : goal.returns-in_err-encoding-clause-ends
returns-in_err-encoding-clause-ends c =
    let p = err_from_is_err_and c.from_residual.result c.from_residual.ensures.1 in
    rw (p.1, p.2) (record {
      of_encoding = λ encoding prepared. ⊎_elim (λ memory. inl memory) (λ unread. absurd (unread.1 encoding prepared)) c.in_err-encoding.ensures.one;
      of_none = λ none. ⊎_elim inl (λ unread. inr unread.0) c.in_err-encoding.ensures.one;
    })

pub returns-in_err-count-clause-ends : goal.returns-in_err-count-clause-ends
returns-in_err-count-clause-ends c = record {
  of_encoding = λ encoding prepared.
      let p = err_from_is_err_and c.from_residual-in_err-count.result c.from_residual-in_err-count.ensures.1 in
      let (is_length, differ) = c.in_err-count.ensures in
      rw (p.1, p.2) (inr (inl (is_length, differ)));
  of_none = λ none. absurd (none _ c.in_ok-encoding.ensures.prepared);
}

pub returns-clause-ends : goal.returns-clause-ends
returns-clause-ends c = record {
  of_encoding = λ encoding prepared.
      let read = encoding_in c.in_ok-encoding.encoding in
      let offsets = c.append_keys.new.offsets in
      let text = c.as_bytes.result.now in
      let wrote = c.write_front.new in
      let told = c.write_front.ensures in
      let AreTheKeys = λ (keys : List ℕ). AreKeys (IsKey read) c.args.dimensionality (length offsets - 1) c.args.chunks.now keys offsets in
      let are_keys = subst AreTheKeys (sym c.as_bytes.ensures.value) c.in_ok-keys.ensures in
      let request = keys_request c.args.dimensionality c.args.chunks.now wrote.buffer offsets wrote.needed in
      subst (λ e. IsEndFor request e c.write_front.result) (c.in_ok-encoding.ensures.one encoding prepared)
      (ends_for request read c.write_front.result (c.in_ok-count.count, rw c.append_keys.auto.offsets c.in_ok-count.ensures)
      (in_front AreTheKeys text wrote.buffer wrote.needed c.write_front.result told.told are_keys told.fits told.written told.short));
  of_none = λ none. absurd (none _ c.in_ok-encoding.ensures.prepared);
}
