use Rattle.std.proofs.Common.{inl, inr, length, refl, ⊎_elim, subst, arith}
use Rattle.std.proofs.lemmas.Result.{MatchResult-from_both, err_from_is_err_and}
use Rattle.zarrs_chunk_keys.specs.seen.Encodings.{encoding_in}
use Rattle.zarrs_chunk_batches.specs.Calls.{IsEndFor}
use Rattle.zarrs_chunk_batches.specs.KeyCalls.{chunks_of_keys_request}
use Rattle.zarrs_chunk_batches.proofs.Ends.{both, ends_for}
use Rattle.zarrs_chunk_batches.proofs.key_calls.chunks_in.Goals as goal

pub returns-in_err-encoding-clause-ends : goal.returns-in_err-encoding-clause-ends
returns-in_err-encoding-clause-ends c =
    let p = err_from_is_err_and c.from_residual.result c.from_residual.ensures.1 in
    rw (p.1, p.2) (record {
      of_encoding = λ encoding prepared. ⊎_elim (λ memory. inl memory) (λ unread. absurd (unread.1 encoding prepared)) c.in_err-encoding.ensures.one;
      of_none = λ none. ⊎_elim inl (λ unread. inr unread.0) c.in_err-encoding.ensures.one;
    })

pub returns-in_err-count-clause-ends : goal.returns-in_err-count-clause-ends
returns-in_err-count-clause-ends c = record {
  of_encoding = λ encoding prepared.
      let p = err_from_is_err_and c.from_residual-in_err-count.result c.from_residual-in_err-count.ensures.1 in
      let (is_length, differ) = c.in_err-count.ensures in
      rw (p.1, p.2) (inr (inl (is_length, λ fits. differ (length c.args.found.now, fits))));
  of_none = λ none. absurd (none _ c.in_ok-encoding.ensures.prepared);
}

pub returns-then-count-found-clause-ends : goal.returns-then-count-found-clause-ends
returns-then-count-found-clause-ends c = record {
  of_encoding = λ encoding prepared.
      let counted = c.in_ok-count.ensures.0 in
      let differ = c.if-count-found.true in
      inr (inl (refl, λ fits. let own = fits.0 in omega arith));
  of_none = λ none. absurd (none _ c.in_ok-encoding.ensures.prepared);
}

pub returns-clause-ends : goal.returns-clause-ends
returns-clause-ends c = record {
  of_encoding = λ encoding prepared.
      let wrote = c.answer_all.new in
      let same = c.answer_all.auto in
      let request = chunks_of_keys_request c.args.dimensionality c.args.text.now c.args.offsets.now wrote.first wrote.found wrote.wrong in
      subst (λ e. IsEndFor request e c.answer_all.result) (c.in_ok-encoding.ensures.one encoding prepared)
      (ends_for request (encoding_in c.in_ok-encoding.encoding) c.answer_all.result
      (rw (same.first, same.found, ← c.if-count-found.false) c.in_ok-count.ensures)
      (MatchResult-from_both c.answer_all.result _ _ (both c.answer_all.result _ _ c.answer_all.ensures.asked c.answer_all.ensures.answered)
      c.answer_all.ensures.refused));
  of_none = λ none. absurd (none _ c.in_ok-encoding.ensures.prepared);
}
