use Rattle.std.proofs.Common.{inl, inr, ⊎_elim, subst}
use Rattle.std.proofs.lemmas.Result.{MatchResult-weaker, err_from_is_err_and}
use Rattle.zarrs_chunk_base.specs.ArraySubset.{IsBox}
use Rattle.zarrs_chunk_keys.specs.seen.Encodings.{encoding_in}
use Rattle.zarrs_chunks.specs.seen.Grids.{grid_in}
use Rattle.zarrs_chunk_batches.specs.Calls.{early, late, no_metadata, wrong_length}
use Rattle.zarrs_chunk_batches.specs.PlanCall.{no_encoding, no_grid, parts_call}
use Rattle.zarrs_chunk_batches.proofs.Ends.{ends_with}
use Rattle.zarrs_chunk_batches.proofs.plan_call.parts_of.Goals as goal

pub returns-in_err-grid-clause-ends : goal.returns-in_err-grid-clause-ends
returns-in_err-grid-clause-ends c =
    let p = err_from_is_err_and c.from_residual.result c.from_residual.ensures.1 in
    rw (p.1, p.2) (⊎_elim (λ memory. inl memory) (λ is. inr (early (no_metadata (no_grid is)))) c.in_err-grid.ensures.made)

pub returns-in_err-encoding-clause-ends : goal.returns-in_err-encoding-clause-ends
returns-in_err-encoding-clause-ends c =
    let p = err_from_is_err_and c.from_residual-in_err-encoding.result c.from_residual-in_err-encoding.ensures.1 in
    rw (p.1, p.2) (⊎_elim (λ memory. inl memory)
    (λ is. inr (early (no_metadata (no_encoding (grid_in c.in_ok-grid.grid) c.in_ok-grid.ensures.made is)))) c.in_err-encoding.ensures)

pub returns-in_err-room-clause-ends : goal.returns-in_err-room-clause-ends
returns-in_err-room-clause-ends c =
    let p = err_from_is_err_and c.from_residual-in_err-room.result c.from_residual-in_err-room.ensures.1 in
    let (is_length, differ) = c.in_err-room.ensures in
    let not_fit = rw c.dimensionality.ensures at differ in
    rw (p.1, p.2)
    (inr (early (wrong_length (grid_in c.in_ok-grid.grid, encoding_in c.in_ok-encoding.encoding) (c.in_ok-grid.ensures.made, c.in_ok-encoding.ensures)
    (λ fits. not_fit fits.0 fits.1) is_length)))

pub returns-in_err-elements-clause-ends : goal.returns-in_err-elements-clause-ends
returns-in_err-elements-clause-ends c =
    let p = err_from_is_err_and c.from_residual-in_err-elements.result c.from_residual-in_err-elements.ensures.1 in
    let has_room = rw c.dimensionality.ensures at c.in_ok-room.ensures in
    rw (p.1, p.2)
    (⊎_elim (λ memory. inl memory)
    (λ is. inr (late (grid_in c.in_ok-grid.grid, encoding_in c.in_ok-encoding.encoding) (c.in_ok-grid.ensures.made, c.in_ok-encoding.ensures)
    (c.in_ok-room.room, has_room) (inl is)))
    c.in_err-elements.ensures.refused)

pub returns-clause-ends : goal.returns-clause-ends
returns-clause-ends c =
    let same = c.write_plan.ensures.same_buffers in
    let has_room = rw c.dimensionality.ensures at c.in_ok-room.ensures in
    let elements = c.in_ok-elements.ensures in
    let is_box = subst IsBox elements.value elements.is_box in
    ends_with (parts_call c.args.array.now c.args.elements.now c.args.first c.write_plan.new.buffers)
    (grid_in c.in_ok-grid.grid, encoding_in c.in_ok-encoding.encoding) c.write_plan.result (c.in_ok-grid.ensures.made, c.in_ok-encoding.ensures)
    (c.in_ok-room.room, rw (same.chunks.1, same.in_chunk.1, same.in_selection.1, same.shapes.1, same.offsets.1) has_room)
    (MatchResult-weaker c.write_plan.result (rw elements.value at c.write_plan.ensures.ends) (λ _ is. (is_box, is))
    (λ fault is. ⊎_elim (λ memory. inl memory) (λ short. inr (inr (short.0, is_box, short.1))) is))
