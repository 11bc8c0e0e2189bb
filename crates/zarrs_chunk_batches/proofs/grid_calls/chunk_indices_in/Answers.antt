use Rattle.std.proofs.Common.{[], inl, inr, ⊎_elim}
use Rattle.std.proofs.lemmas.Result.{IfErr-weaker, MatchResult-from_both, err_from_is_err_and, on_ok_weaker}
use Rattle.zarrs_chunk_base.specs.Dimension.{InBox}
use Rattle.zarrs_chunk_prepared.specs.LookedUp.{IsHomeIn}
use Rattle.zarrs_chunks.specs.Subsets.{HasNoHome}
use Rattle.zarrs_chunk_batches.specs.Batch.{list_at}
use Rattle.zarrs_chunk_batches.specs.GridCalls.{chunk_indices_request}
use Rattle.zarrs_chunk_batches.proofs.Ends.{ends_for}
use Rattle.zarrs_chunk_batches.proofs.PreparedAnswers.{kept, of_grid}
use Rattle.zarrs_chunk_batches.proofs.grid_calls.chunk_indices_in.Goals as goal

pub returns-in_err-grid-clause-ends : goal.returns-in_err-grid-clause-ends
returns-in_err-grid-clause-ends c =
    let p = err_from_is_err_and c.from_residual.result c.from_residual.ensures.1 in
    rw (p.1, p.2) (record {
      of_grid = λ grid prepared. ⊎_elim (λ memory. inl memory) (λ misfits. inr (inl misfits)) (c.in_err-grid.ensures.read grid prepared);
      of_none = λ none. c.in_err-grid.ensures.of_none none;
    })

pub returns-clause-ends : goal.returns-clause-ends
returns-clause-ends c = record {
  of_grid = λ grid prepared.
      let (are, fits) = c.in_ok-grid.ensures.read grid prepared in
      let wrote = c.answer_all.new in
      let same = c.answer_all.auto in
      let indices = c.args.indices.now in
      ends_for (chunk_indices_request indices wrote.first wrote.found) grid c.answer_all.result
      (rw (same.first, same.found) fits)
      (MatchResult-from_both c.answer_all.result _ _
      (on_ok_weaker c.answer_all.result
      (of_grid grid c.in_ok-grid.grid are (λ g n k chunk place. IsHomeIn g.dimensions (list_at n indices k) chunk place)
      (λ g n k chunk _. InBox g.dimensions chunk (list_at n indices k)) (λ g n k. HasNoHome g.dimensions (list_at n indices k)) (λ n. (n, 0))
      wrote.first [] wrote.found (λ k less is. is.0))
      c.answer_all.ensures.answered)
      (IfErr-weaker c.answer_all.result _ _ (λ fault is. inl (⊎_elim (λ memory. memory) (λ none. none.0) is)) c.answer_all.ensures.refused));
  of_none = λ none. absurd (c.in_ok-grid.ensures.of_none none);
}

pub returns-clause-chunks_kept : goal.returns-clause-chunks_kept
returns-clause-chunks_kept c =
    on_ok_weaker c.answer_all.result
    (λ keeps grid prepared.
    kept grid c.in_ok-grid.grid (c.in_ok-grid.ensures.read grid prepared).0 c.args.chunks.now c.answer_all.new.first c.answer_all.new.found keeps)
    c.answer_all.ensures.first_kept
