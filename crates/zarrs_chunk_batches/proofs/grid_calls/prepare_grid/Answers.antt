use Rattle.std.proofs.Common.{List, ℕ, inl, inr, ⊎_elim}
use Rattle.std.proofs.lemmas.Result.{err_from_is_err_and}
use Rattle.zarrs_chunk_prepared.specs.Prepared.{IsWrittenGrid}
use Rattle.zarrs_chunks.specs.seen.Grids.{grid_in}
use Rattle.zarrs_chunk_batches.specs.Calls.{early, no_metadata}
use Rattle.zarrs_chunk_batches.specs.PreparedCalls.{prepare_grid_call}
use Rattle.zarrs_chunk_batches.proofs.Ends.{ends_with, in_front}
use Rattle.zarrs_chunk_batches.proofs.grid_calls.prepare_grid.Goals as goal

pub returns-in_err-grid-clause-ends : goal.returns-in_err-grid-clause-ends
returns-in_err-grid-clause-ends c =
    let p = err_from_is_err_and c.from_residual.result c.from_residual.ensures.1 in
    rw (p.1, p.2) (⊎_elim (λ memory. inl memory) (λ is. inr (early (no_metadata is))) c.in_err-grid.ensures.made)

pub returns-clause-ends : goal.returns-clause-ends
returns-clause-ends c =
    let grid = grid_in c.in_ok-grid.grid in
    let IsOfGrid = λ (numbers : List ℕ). IsWrittenGrid numbers grid in
    let numbers = c.deref.result.now in
    let are : IsWrittenGrid numbers grid = rw c.deref.ensures.value c.in_ok-prepared.ensures in
    let wrote = c.write_front.new in
    let told = c.write_front.ensures in
    ends_with (prepare_grid_call c.args.shape.now c.args.chunk_grid.now wrote.buffer wrote.needed) grid c.write_front.result c.in_ok-grid.ensures.made tt
    (in_front IsOfGrid numbers wrote.buffer wrote.needed c.write_front.result told.told are told.fits told.written told.short)
