use Rattle.std.proofs.Common.{[], ◌∷◌, ◌++◌, inl, refl, subst, sym}
use Rattle.std.proofs.lemmas.Slice.Zip.{all_zipped_more}
use Rattle.std.specs.List.{AllZip}
use Rattle.zarrs_chunk_plan.proofs.Taken.{no_parts}
use Rattle.zarrs_chunk_plan.proofs.Walked.{at_first, at_last, one_more, plan_of, planned_meet}
use Rattle.zarrs_chunk_plan.proofs.SomePlan.{no_plan}
use Rattle.zarrs_chunk_plan.specs.seen.Parts.{IsPlanned, MeetSubset}
use Rattle.callers.specs.Reading.{IsRead}
use Rattle.callers.proofs.Pieces.{are_pieces}
use Rattle.callers.proofs.reading.read_box.Goals as goal

pub loop-part-init : goal.loop-part-init
loop-part-init g c =
    let dimensions = g.G.ChunkGridTraits.dimensions in
    let is_key = g.E.ChunkKeyEncodingTraits.is_key in
    let begin = c.into_iter-part-iterator.result in
    let planned = rw c.in-Some.is at c.in_ok-walk.ensures.planned in
    let meet = planned_meet dimensions _ _ _ _ planned in (
      [],
      at_first dimensions is_key begin begin [] refl refl
          (subst (MeetSubset dimensions) (sym c.into_iter-part-iterator.ensures.into_iter_gives) meet),
      subst (AllZip (IsRead (g.S.ChunkStore.answers c.args.store.now)) []) (sym c.new-pieces.ensures.items) tt,
    )

pub loop-part-preserved : goal.loop-part-preserved
loop-part-preserved g c =
    let (came, have, are) = c.loop-part.invariant in
    let part = c.in_ok-part.field-0 in
    let more = came ++ part ∷ [] in
    let gives = rw c.in_ok-part.was at c.in-Some-part.ensures.steps in
    let IsOne = IsRead (g.S.ChunkStore.answers c.args.store.now) in (
      more,
      one_more g.G.ChunkGridTraits.dimensions g.E.ChunkKeyEncodingTraits.is_key c.into_iter-part-iterator.result
          c.loop-part.part-iterator c.next.new.self part came more have gives refl,
      subst (AllZip IsOne more) (sym c.in_ok-push.ensures.items)
          (all_zipped_more IsOne came c.loop-part.pieces.items part c.in_ok-read_part.field-0 are c.in_ok-read_part.ensures),
    )

pub returns-clause-empty : goal.returns-clause-empty
returns-clause-empty g c = λ is_empty some.
    let dimensions = g.G.ChunkGridTraits.dimensions in
    let is_key = g.E.ChunkKeyEncodingTraits.is_key in
    let begin = c.into_iter-part-iterator.result in
    let same = c.into_iter-part-iterator.ensures.into_iter_gives in
    let (came, have, are) = c.loop-part.invariant in
    let planned = subst (IsPlanned dimensions c.args.grid.now c.args.encoding.now c.args.array_subset.now) (sym same)
    (rw c.in-Some.is at c.in_ok-walk.ensures.planned) in
    let parts = at_last dimensions is_key begin c.loop-part.part-iterator c.next.new.self came have c.in-None.ensures.steps in
    let plan = plan_of dimensions is_key c.args.grid.now c.args.encoding.now c.args.array_subset.now planned.cover begin came planned.about
    planned.is_cover planned.left parts in
    no_parts (IsRead (g.S.ChunkStore.answers c.args.store.now)) came c.loop-part.pieces.items
    (no_plan (dimensions c.args.grid.now) (is_key c.args.encoding.now) c.args.array_subset.now came is_empty plan) are

pub returns-clause-answers : goal.returns-clause-answers
returns-clause-answers g c = λ some.
    let dimensions = g.G.ChunkGridTraits.dimensions in
    let is_key = g.E.ChunkKeyEncodingTraits.is_key in
    let grid = c.args.grid.now in
    let encoding = c.args.encoding.now in
    let subset = c.args.array_subset.now in
    let begin = c.into_iter-part-iterator.result in
    let same = c.into_iter-part-iterator.ensures.into_iter_gives in
    let (came, have, are) = c.loop-part.invariant in
    let (lengths, _) = rw c.in-Some.is at (c.in_ok-walk.ensures.answers (inl some)) in
    let planned = subst (IsPlanned dimensions grid encoding subset) (sym same) (rw c.in-Some.is at c.in_ok-walk.ensures.planned) in
    let parts = at_last dimensions is_key begin c.loop-part.part-iterator c.next.new.self came have c.in-None.ensures.steps in
    let plan = plan_of dimensions is_key grid encoding subset planned.cover begin came planned.about planned.is_cover planned.left parts in (
      lengths,
      λ array stored. are_pieces (dimensions grid) (is_key encoding) subset
          (g.S.ChunkStore.answers c.args.store.now) array came c.loop-part.pieces.items
          c.each_element_lies_in_one_part.ensures.place stored (c.the_parts_tile_the_box.ensures.all came plan)
          (c.the_parts_tile_the_box.ensures.apart came plan) plan are,
    )
