use Rattle.std.proofs.Common.{inl, inr, ⊎_elim}
use Rattle.std.proofs.lemmas.Result.{IfErr-weaker, MatchResult-from_both, err_from_is_err_and, on_ok_weaker}
use Rattle.zarrs_chunks.specs.Subsets.{HasNoBox, Spans}
use Rattle.zarrs_chunk_batches.specs.Batch.{list_at}
use Rattle.zarrs_chunk_batches.specs.GridCalls.{chunk_boxes_request}
use Rattle.zarrs_chunk_batches.proofs.Ends.{ends_for}
use Rattle.zarrs_chunk_batches.proofs.PreparedAnswers.{kept, of_grid}
use Rattle.zarrs_chunk_batches.proofs.grid_calls.chunk_boxes_in.Goals as goal

pub returns-in_err-grid-clause-ends : goal.returns-in_err-grid-clause-ends
returns-in_err-grid-clause-ends c =
    let p = err_from_is_err_and c.from_residual.result c.from_residual.ensures.1 in
    rw (p.1, p.2) (record {
      of_grid = λ grid prepared. ⊎_elim (λ memory. inl memory) (λ misfits. inr (inl misfits)) (c.in_err-grid.ensures.read grid prepared);
      of_none = λ none. c.in_err-grid.ensures.of_none none;
    })

pub returns-clause-ends : goal.returns-clause-ends
returns-clause-ends c = record {
  of_grid = λ grid prepared.
      let (are, fits) = c.in_ok-grid.ensures.read grid prepared in
      let wrote = c.answer_all.new in
      let same = c.answer_all.auto in
      let chunks = c.args.chunks.now in
      ends_for (chunk_boxes_request chunks wrote.first wrote.second wrote.found) grid c.answer_all.result
      (rw (same.first, same.second, same.found) fits)
      (MatchResult-from_both c.answer_all.result _ _
      (on_ok_weaker c.answer_all.result
      (of_grid grid c.in_ok-grid.grid are
      (λ g n k origin sizes. Spans g.dimensions (list_at n chunks k) (list_at n chunks k) (record { start = origin; shape = sizes }))
      (λ g n k origin sizes. Spans g.dimensions (list_at n chunks k) (list_at n chunks k) (record { start = origin; shape = sizes }))
      (λ g n k. HasNoBox g.dimensions (list_at n chunks k)) (λ n. (n, n)) wrote.first wrote.second wrote.found (λ k less is. is))
      c.answer_all.ensures.answered)
      (IfErr-weaker c.answer_all.result _ _ (λ fault is. inl (⊎_elim (λ memory. memory) (λ none. none.0) is)) c.answer_all.ensures.refused));
  of_none = λ none. absurd (c.in_ok-grid.ensures.of_none none);
}

pub returns-clause-origins_kept : goal.returns-clause-origins_kept
returns-clause-origins_kept c =
    on_ok_weaker c.answer_all.result
    (λ keeps grid prepared.
    kept grid c.in_ok-grid.grid (c.in_ok-grid.ensures.read grid prepared).0 c.args.origins.now c.answer_all.new.first c.answer_all.new.found keeps)
    c.answer_all.ensures.first_kept

pub returns-clause-shapes_kept : goal.returns-clause-shapes_kept
returns-clause-shapes_kept c =
    on_ok_weaker c.answer_all.result
    (λ keeps grid prepared.
    kept grid c.in_ok-grid.grid (c.in_ok-grid.ensures.read grid prepared).0 c.args.shapes.now c.answer_all.new.second c.answer_all.new.found keeps)
    c.answer_all.ensures.second_kept
