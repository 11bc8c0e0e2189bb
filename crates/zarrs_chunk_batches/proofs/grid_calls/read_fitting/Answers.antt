use Rattle.std.proofs.Common.{inl, inr, ⊎_elim}
use Rattle.std.proofs.lemmas.Result.{err_from_is_err_and}
use Rattle.zarrs_chunk_batches.proofs.PreparedAnswers.{fits, misfits}
use Rattle.zarrs_chunk_batches.proofs.grid_calls.read_fitting.Goals as goal

pub returns-in_err-grid-clause-read : goal.returns-in_err-grid-clause-read
returns-in_err-grid-clause-read c grid prepared =
    let p = err_from_is_err_and c.from_residual.result c.from_residual.ensures.1 in
    rw (p.1, p.2) (⊎_elim (λ memory. inl memory) (λ unread. absurd (unread.1 grid prepared)) c.in_err-grid.ensures.read)

pub returns-in_err-check_lengths-clause-read : goal.returns-in_err-check_lengths-clause-read
returns-in_err-check_lengths-clause-read c grid prepared =
    let p = err_from_is_err_and c.from_residual-in_err-check_lengths.result c.from_residual-in_err-check_lengths.ensures.1 in
    let are = c.in_ok-grid.ensures.read grid prepared in
    let (is_length, differ) = rw c.dimensionality.ensures at c.in_err-check_lengths.ensures in
    rw (p.1, p.2) (inr (is_length, misfits grid c.in_ok-grid.grid are c.args.count c.args.totals.now differ))

pub returns-clause-read : goal.returns-clause-read
returns-clause-read c grid prepared =
    let are = c.in_ok-grid.ensures.read grid prepared in
    (are, fits grid c.in_ok-grid.grid are c.args.count c.args.totals.now (rw c.dimensionality.ensures at c.in_ok-check_lengths.ensures))

pub returns-in_err-grid-clause-of_none : goal.returns-in_err-grid-clause-of_none
returns-in_err-grid-clause-of_none c none =
    let p = err_from_is_err_and c.from_residual.result c.from_residual.ensures.1 in
    rw (p.1, p.2) (⊎_elim inl (λ unread. inr unread.0) c.in_err-grid.ensures.read)

pub returns-in_err-check_lengths-clause-of_none : goal.returns-in_err-check_lengths-clause-of_none
returns-in_err-check_lengths-clause-of_none c none = let (tables, are) = c.in_ok-grid.ensures.tables in absurd (none tables are)

pub returns-clause-of_none : goal.returns-clause-of_none
returns-clause-of_none c none = let (tables, are) = c.in_ok-grid.ensures.tables in absurd (none tables are)
