use Rattle.std.proofs.Common.{inl, inr, refl, arith, ⊎_elim}
use Rattle.std.proofs.lemmas.Result.{err_from_is_err_and}
use Rattle.zarrs_chunk_batches.proofs.PreparedAnswers.{width_is}
use Rattle.zarrs_chunk_batches.proofs.grid_calls.grid_shape_in.Goals as goal

pub returns-in_err-read_grid : goal.returns-in_err-read_grid
returns-in_err-read_grid c =
    let p = err_from_is_err_and c.from_residual.result c.from_residual.ensures.1 in
    rw (p.1, p.2) (record {
      of_grid = λ grid prepared. ⊎_elim (λ memory. inl memory) (λ unread. absurd (unread.1 grid prepared)) c.in_err-read_grid.ensures.read;
      of_none = λ none. ⊎_elim inl (λ unread. inr unread.0) c.in_err-read_grid.ensures.read;
    })

pub returns-in_err-write_grid_shape : goal.returns-in_err-write_grid_shape
returns-in_err-write_grid_shape c =
    let told = c.from_residual-in_err-write_grid_shape in
    let p = err_from_is_err_and told.result told.ensures.1 in
    let same = c.write_grid_shape.auto.sizes in
    rw (p.1, p.2) (record {
      of_grid = λ grid prepared.
          let width = width_is grid c.in_ok-read_grid.field-0 (c.in_ok-read_grid.ensures.read grid prepared) in
          inr (inl (refl, λ fits. c.in_err-write_grid_shape.ensures.lengths.0 (let own = fits.0 in omega (arith, width, same))));
      of_none = λ none. let (tables, are) = c.in_ok-read_grid.ensures.tables in absurd (none tables are);
    })
