use Rattle.std.proofs.Common.{inr, refl}
use Rattle.zarrs_chunk_batches.proofs.grid_calls.read_grid.Goals as goal

pub returns-in-Some-clause-read : goal.returns-in-Some-clause-read
returns-in-Some-clause-read c grid prepared = rw c.in-Some.is at c.in_ok-grid.ensures.grid grid prepared

pub returns-in-None-clause-read : goal.returns-in-None-clause-read
returns-in-None-clause-read c = inr (refl, λ grid prepared. rw c.in-None.is at c.in_ok-grid.ensures.grid grid prepared)

pub returns-in-Some-clause-tables : goal.returns-in-Some-clause-tables
returns-in-Some-clause-tables c = (_, rw c.in-Some.is at c.in_ok-grid.ensures.tables)
