use Rattle.std.proofs.Common.{◌≡◌, ◌∙◌, length, Err, ap, sym, refl, inl, inr, subst, arith}
use Rattle.std.proofs.lemmas.Result.{err_from_is_err_and}
use Rattle.zarrs_chunk_base.specs.Dimension.{HasEdge, StartsAt}
use Rattle.zarrs_chunk_base.proofs.InEach.{length_values}
use Rattle.zarrs_chunk_axes.specs.LookUp.{AnswersOrigin}
use Rattle.zarrs_chunk_axes.proofs.OverBox.{length_lasts}
use Rattle.zarrs_chunks.proofs.Covers.{firsts_before_lasts, starts_in_order}
use Rattle.zarrs_chunks.proofs.Subsets.{last_refused, no_chunk, no_origin, spans_or_none}
use Rattle.zarrs_chunks.proofs.chunk_grid.ChunkGridTraits.chunks_subset.Goals as goal

pub returns-in_default-2 : goal.returns-in_default-2
returns-in_default-2 g c =
    let (some, _) = rw c.in-Some.is at c.in_ok-last.ensures in
    let (same, none) = rw (c.in_default-2.is, c.start-first.ensures.value) at c.in_ok-start.ensures in
    (same, (some, inl (no_origin _ _ none)))

pub returns-in_default-3 : goal.returns-in_default-3
returns-in_default-3 g c =
    let (some, lasts_are) = rw c.in-Some.is at c.in_ok-last.ensures in
    let (_, none) = rw (c.in_default-3.is, c.deref.ensures.value, lasts_are) at c.in_ok-last_start.ensures in
    (omega arith, (some, inr (no_origin _ _ none)))

pub returns-in_default-4 : goal.returns-in_default-4
returns-in_default-4 g c =
    let (some, lasts_are) = rw c.in-Some.is at c.in_ok-last.ensures in
    let (_, none) = rw (c.in_default-4.is, c.deref-2.ensures.value, lasts_are) at c.in_ok-last_shape.ensures in
    (omega arith, (some, inr (no_chunk _ _ none)))

pub returns-in_err-last_start : goal.returns-in_err-last_start
returns-in_err-last_start g c =
    let ds = g.Self.ChunkGridTraits.dimensions c.args.self.now in
    let refused = subst (λ chunk. AnswersOrigin ds chunk (Err c.in_err-last_start.field-0.0)) c.deref.ensures.value c.in_err-last_start.ensures in
    let (_, lasts_are) = rw c.in-Some.is at c.in_ok-last.ensures in
    let agree : length c.args.chunks.now.start ≡ length ds = omega arith in
    let same : length c.in-Some.last.items ≡ length ds = ap length lasts_are ∙ length_lasts _ _ c.start-first.ensures.is_box.lengths ∙ agree in
    let told = err_from_is_err_and c.from_residual-in_err-last_start.result c.from_residual-in_err-last_start.ensures.1 in
    rw (told.1, told.2) (last_refused _ _ c.args.chunks.now _ same agree refused)

pub box_up_to-requires-clause-before : goal.box_up_to-requires-clause-before
box_up_to-requires-clause-before g c =
    let (_, lasts_are) = rw c.in-Some.is at c.in_ok-last.ensures in
    let (_, starts) = rw (c.in-Some-2.is, c.start-first.ensures.value) at c.in_ok-start.ensures in
    let (_, last_starts) = rw (c.in-Some-3.is, c.deref.ensures.value, lasts_are) at c.in_ok-last_start.ensures in
    let order = firsts_before_lasts _ _ c.start-first.ensures.is_box.lengths in
    rw c.deref-3.ensures.value (starts_in_order _ _ _ _ _ (g.met.Self.ChunkGridTraits.chained c.args.self.now) order starts last_starts)

pub box_up_to-requires-clause-lengths : goal.box_up_to-requires-clause-lengths
box_up_to-requires-clause-lengths g c =
    let (_, last_starts) = rw (c.in-Some-3.is, c.deref.ensures.value) at c.in_ok-last_start.ensures in
    let (_, long) = rw (c.in-Some-4.is, c.deref-2.ensures.value) at c.in_ok-last_shape.ensures in
    rw c.deref-3.ensures.value (length_values HasEdge _ _ _ long ∙ sym (length_values StartsAt _ _ _ last_starts))

pub returns : goal.returns
returns g c =
    let (some, lasts_are) = rw c.in-Some.is at c.in_ok-last.ensures in
    let (agree, starts) = rw (c.in-Some-2.is, c.start-first.ensures.value) at c.in_ok-start.ensures in
    let (_, last_starts) = rw (c.in-Some-3.is, c.deref.ensures.value) at c.in_ok-last_start.ensures in
    let (_, long) = rw (c.in-Some-4.is, c.deref-2.ensures.value) at c.in_ok-last_shape.ensures in
    spans_or_none _ _ _ _ _ _ _ _ agree some refl (sym lasts_are) starts last_starts long (rw c.deref-3.ensures.value at c.box_up_to.ensures)
