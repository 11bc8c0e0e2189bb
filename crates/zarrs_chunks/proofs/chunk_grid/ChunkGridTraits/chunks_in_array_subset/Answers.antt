use Rattle.std.proofs.Common.{◌≡◌, ◌<◌, ◌∙◌, length, replicate, Err, ap, sym, subst, ⊎_elim, arith}
use Rattle.std.proofs.lemmas.List.{length-replicate}
use Rattle.std.proofs.lemmas.Result.{err_from_is_err_and}
use Rattle.zarrs_chunk_base.specs.Dimension.{Holds}
use Rattle.zarrs_chunk_base.specs.Greatest.{greatest}
use Rattle.zarrs_chunk_base.proofs.InEach.{length_numbers, length_values}
use Rattle.zarrs_chunk_axes.specs.LookUp.{AnswersChunk}
use Rattle.zarrs_chunk_axes.proofs.OverBox.{length_lasts}
use Rattle.zarrs_chunks.proofs.Covers.{chunks_small, cover_refused, covers, firsts_before_lasts, in_order, lasts_small}
use Rattle.zarrs_chunks.proofs.Covers.{none_is_not_empty}
use Rattle.zarrs_chunks.proofs.chunk_grid.ChunkGridTraits.chunks_in_array_subset.Goals as goal

pub returns-in_default-clause-answers : goal.returns-in_default-clause-answers
returns-in_default-clause-answers g c =
    let empty = rw c.in_default.is at c.in_ok-last_element.ensures in
    λ either. absurd (⊎_elim
    (λ some. some empty)
    (λ none. none_is_not_empty c.args.array_subset.now c.start-start.ensures.is_box (omega arith) empty)
    either)

pub returns-in_err-last-clause-answers : goal.returns-in_err-last-clause-answers
returns-in_err-last-clause-answers g c =
    let ds = g.Self.ChunkGridTraits.dimensions c.args.self.now in
    let refused = subst (λ index. AnswersChunk ds index (Err c.in_err-last.field-0.0)) c.deref.ensures.value c.in_err-last.ensures in
    let (_, end_is) = rw c.in-Some.is at c.in_ok-last_element.ensures in
    let agree : length c.args.array_subset.now.start ≡ length ds = omega arith in
    let same : length c.in-Some.last_element.items ≡ length ds = ap length end_is ∙ length_lasts _ _ c.start-start.ensures.is_box.lengths ∙ agree in
    let told = err_from_is_err_and c.from_residual-in_err-last.result c.from_residual-in_err-last.ensures.1 in
    λ _. rw (told.1, told.2) (cover_refused _ _ c.args.array_subset.now _ same agree refused)

pub box_up_to-requires-clause-before : goal.box_up_to-requires-clause-before
box_up_to-requires-clause-before g c =
    let is_box = c.start-start.ensures.is_box in
    let (_, end_is) = rw c.in-Some.is at c.in_ok-last_element.ensures in
    let (_, first) = rw (c.in-Some-2.is, c.start-start.ensures.value) at c.in_ok-first.ensures in
    let (_, last) = rw (c.in-Some-3.is, c.deref.ensures.value) at c.in_ok-last.ensures in
    let order = firsts_before_lasts _ _ is_box.lengths in
    rw c.deref-2.ensures.value (in_order _ _ _ _ _ (g.met.Self.ChunkGridTraits.chained c.args.self.now) order first (rw (← end_is) last))

pub box_up_to-requires-clause-lengths : goal.box_up_to-requires-clause-lengths
box_up_to-requires-clause-lengths g c =
    let (_, last) = rw (c.in-Some-3.is, c.deref.ensures.value) at c.in_ok-last.ensures in
    let filled = c.fill.ensures.items (λ y h. h) in
    rw c.deref-2.ensures.value (ap length filled ∙ length-replicate _ _ ∙ sym c.deref.ensures.len ∙ ap length c.deref.ensures.value
    ∙ length_values Holds _ _ _ last ∙ sym (length_numbers Holds _ _ _ last))

pub returns-clause-answers : goal.returns-clause-answers
returns-clause-answers g c =
    let is_box = c.start-start.ensures.is_box in
    let (some, end_is) = rw c.in-Some.is at c.in_ok-last_element.ensures in
    let (agree, first) = rw (c.in-Some-2.is, c.start-start.ensures.value) at c.in_ok-first.ensures in
    let (_, last) = rw (c.in-Some-3.is, c.deref.ensures.value) at c.in_ok-last.ensures in
    let chains = g.met.Self.ChunkGridTraits.chained c.args.self.now in
    let chunks = in_order _ _ _ _ _ chains (firsts_before_lasts _ _ is_box.lengths) first (rw (← end_is) last) in
    let numbers = lasts_small _ _ is_box.lengths is_box.fits some in
    let small = chunks_small (λ n. n < greatest) (λ m n low below. omega arith) _ _ c.in-Some.last_element.items chains last (rw end_is numbers) in
    let many = sym c.deref.ensures.len ∙ ap length c.deref.ensures.value ∙ length_values Holds _ _ _ last ∙ sym (length_numbers Holds _ _ _ last) in
    λ _. covers _ _ _ _ c.fill.new.self.items _ agree chunks small
    (c.fill.ensures.items (λ y h. h) ∙ ap (λ n. replicate n 1) many) first (rw (← end_is) last) (rw c.deref-2.ensures.value at c.box_up_to.ensures)
