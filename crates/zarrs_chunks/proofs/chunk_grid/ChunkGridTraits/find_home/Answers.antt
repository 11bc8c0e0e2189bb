use Rattle.std.proofs.Common.{◌∙◌, Err, sym, subst, arith}
use Rattle.std.proofs.lemmas.Result.{err_from_is_err_and}
use Rattle.zarrs_chunk_base.specs.Dimension.{StartsAt}
use Rattle.zarrs_chunk_axes.specs.LookUp.{AnswersOrigin}
use Rattle.zarrs_chunk_base.proofs.InEach.{length_values}
use Rattle.zarrs_chunk_base.proofs.Boxes.{fits}
use Rattle.zarrs_chunks.proofs.Boxes.{has_origin, home_refused, is_place}
use Rattle.zarrs_chunks.proofs.chunk_grid.ChunkGridTraits.find_home.Goals as goal

pub returns-in_default-2-clause-answers : goal.returns-in_default-2-clause-answers
returns-in_default-2-clause-answers g c =
    let (same, box) = rw c.in-Some.is at c.in_ok-chunk.ensures in
    let (_, none) = rw (c.in_default-2.is, c.deref.ensures.value) at c.in_ok-origin.ensures in
    let (origin, is_origin, fit) = has_origin _ _ _ box (fits _ (λ k. omega (arith, c.type_inv.array_indices k))) in
    absurd (none origin is_origin fit)

pub place_from-requires : goal.place_from-requires
place_from-requires g c =
    let (same, box) = rw c.in-Some.is at c.in_ok-chunk.ensures in
    let (_, is_origin) = rw (c.in-Some-2.is, c.deref.ensures.value) at c.in_ok-origin.ensures in
    length_values StartsAt _ _ _ is_origin ∙ sym same

pub returns-clause-answers : goal.returns-clause-answers
returns-clause-answers g c =
    let (same, box) = rw c.in-Some.is at c.in_ok-chunk.ensures in
    let (_, is_origin) = rw (c.in-Some-2.is, c.deref.ensures.value) at c.in_ok-origin.ensures in
    (same, box, is_place _ _ _ _ _ box is_origin c.place_from.ensures.length c.place_from.ensures.difference)

pub returns-in_err-origin-clause-answers : goal.returns-in_err-origin-clause-answers
returns-in_err-origin-clause-answers g c =
    let (same, box) = rw c.in-Some.is at c.in_ok-chunk.ensures in
    let refused =
    subst (λ chunk. AnswersOrigin (g.Self.ChunkGridTraits.dimensions c.args.self.now) chunk (Err c.in_err-origin.field-0.0)) c.deref.ensures.value
    c.in_err-origin.ensures
    in
    let told = err_from_is_err_and c.from_residual-in_err-origin.result c.from_residual-in_err-origin.ensures.1 in
    rw (told.1, told.2) (home_refused _ _ _ _ _ _ box refused same)
