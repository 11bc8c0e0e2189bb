use Rattle.std.proofs.Common.{◌≡◌, ◌⊎◌, IfErr, inl, inr, length, subst, ⊎_elim}
use Rattle.std.proofs.lemmas.Result.{MatchResult-from_both, err_from_is_err_and, on_ok_weaker}
use Rattle.zarrs_chunk_base.specs.ArraySubset.{IsBox}
use Rattle.zarrs_chunk_prepared.specs.LookedUp.{HasNoCover, IsCoverOf}
use Rattle.zarrs_chunk_batches.specs.Calls.{AreQuestions, IsFirstWrong}
use Rattle.zarrs_chunk_batches.specs.GridCalls.{box_asked, covers_request}
use Rattle.zarrs_chunk_batches.specs.declared.codes.Fault.TheVariants.{Memory, NotBox}
use Rattle.zarrs_chunk_batches.proofs.Ends.{both, ends_for}
use Rattle.zarrs_chunk_batches.proofs.PreparedAnswers.{kept, of_grid, width_is}
use Rattle.zarrs_chunk_batches.proofs.grid_calls.covers_in.Goals as goal

pub returns-in_err-grid-clause-ends : goal.returns-in_err-grid-clause-ends
returns-in_err-grid-clause-ends c =
    let p = err_from_is_err_and c.from_residual.result c.from_residual.ensures.1 in
    rw (p.1, p.2) (record {
      of_grid = λ grid prepared. ⊎_elim (λ memory. inl memory) (λ misfits. inr (inl misfits)) (c.in_err-grid.ensures.read grid prepared);
      of_none = λ none. c.in_err-grid.ensures.of_none none;
    })

pub returns-clause-ends : goal.returns-clause-ends
returns-clause-ends c = record {
  of_grid = λ grid prepared.
      let (are, fits) = c.in_ok-grid.ensures.read grid prepared in
      let wrote = c.answer_all.new in
      let same = c.answer_all.auto in
      let starts = c.args.starts.now in
      let shapes = c.args.shapes.now in
      let width = width_is grid c.in_ok-grid.grid are in
      ends_for (covers_request starts shapes wrote.first wrote.second wrote.found wrote.wrong) grid c.answer_all.result
      (rw (same.first, same.second, same.found) fits)
      (MatchResult-from_both c.answer_all.result _ _
      (both c.answer_all.result _ _
      (on_ok_weaker c.answer_all.result (subst (λ n. AreQuestions (length wrote.found) (λ k. IsBox (box_asked n starts shapes k))) width)
      c.answer_all.ensures.asked)
      (on_ok_weaker c.answer_all.result
      (of_grid grid c.in_ok-grid.grid are
      (λ g n k first counts. IsCoverOf g.dimensions (box_asked n starts shapes k) (record { start = first; shape = counts }))
      (λ g n k first counts. IsCoverOf g.dimensions (box_asked n starts shapes k) (record { start = first; shape = counts }))
      (λ g n k. HasNoCover g.dimensions (box_asked n starts shapes k)) (λ n. (n, n)) wrote.first wrote.second wrote.found (λ k less is. is))
      c.answer_all.ensures.answered))
      (subst
      (λ n. IfErr c.answer_all.result (λ fault. (fault ≡ Memory)
      ⊎ ((fault ≡ NotBox) × IsFirstWrong (length wrote.found) (λ k. IsBox (box_asked n starts shapes k)) wrote.wrong)))
      width c.answer_all.ensures.refused));
  of_none = λ none. absurd (c.in_ok-grid.ensures.of_none none);
}

pub returns-clause-first_chunks_kept : goal.returns-clause-first_chunks_kept
returns-clause-first_chunks_kept c =
    on_ok_weaker c.answer_all.result
    (λ keeps grid prepared.
    kept grid c.in_ok-grid.grid (c.in_ok-grid.ensures.read grid prepared).0 c.args.first_chunks.now c.answer_all.new.first c.answer_all.new.found keeps)
    c.answer_all.ensures.first_kept

pub returns-clause-chunk_counts_kept : goal.returns-clause-chunk_counts_kept
returns-clause-chunk_counts_kept c =
    on_ok_weaker c.answer_all.result
    (λ keeps grid prepared.
    kept grid c.in_ok-grid.grid (c.in_ok-grid.ensures.read grid prepared).0 c.args.chunk_counts.now c.answer_all.new.second c.answer_all.new.found keeps)
    c.answer_all.ensures.second_kept
