use Rattle.std.proofs.Common.{inl, length, refl, subst, ⊎_elim}
use Rattle.zarrs_chunk_base.specs.ArraySubset.{IsEmptyBox}
use Rattle.zarrs_chunks.specs.Subsets.{AnswersCover, AnswersEmptyCover}
use Rattle.zarrs_chunk_plan.proofs.MovedBoxes.{lies_some}
use Rattle.zarrs_chunk_plan.proofs.Plans.{empty_or_some}
use Rattle.zarrs_chunk_tasks.proofs.GroupBoxes.{zeros_empty}
use Rattle.zarrs_chunk_tasks.proofs.copied.groups_with.Goals as goal

pub groups_over-requires-clause-empty : goal.groups_over-requires-clause-empty
groups_over-requires-clause-empty g c = λ empty.
    let ds = g.K.ChunkGridTraits.dimensions c.args.grid.now in
    let some = lies_some ds c.args.elements.now c.requires.lies empty in
    let is = subst (AnswersEmptyCover ds) (c.in_ok-cover.ensures {u = tt}) (c.chunks_in_array_subset.ensures.empty empty some) in
    rw is (zeros_empty (length ds) some)

pub returns-in_default-clause-none : goal.returns-in_default-clause-none
returns-in_default-clause-none g c =
    let ds = g.K.ChunkGridTraits.dimensions c.args.grid.now in
    let elements = c.args.elements.now in
    let no_chunks : IsEmptyBox c.in_ok-cover.cover = rw c.in_default.is at (c.in_ok-last.ensures {u = tt}) in
    ⊎_elim (λ (empty : IsEmptyBox elements). empty)
    (λ (some : ¬ IsEmptyBox elements).
    let (_, is) = subst (AnswersCover ds elements) (c.in_ok-cover.ensures {u = tt}) (c.chunks_in_array_subset.ensures.answers (inl some)) in
    absurd (is.some no_chunks)) (empty_or_some elements.shape)

pub returns-in_default-clause-named : goal.returns-in_default-clause-named
returns-in_default-clause-named g c =
    let groups = c.in_ok-groups.ensures {u = tt} in (c.in_ok-groups.groups, groups.is_box, groups.groups)

pub returns-clause-named : goal.returns-clause-named
returns-clause-named g c = let groups = c.in_ok-groups.ensures {u = tt} in (c.in_ok-groups.groups, groups.is_box, groups.groups)

pub returns-clause-some : goal.returns-clause-some
returns-clause-some g c =
    let ds = g.K.ChunkGridTraits.dimensions c.args.grid.now in
    let elements = c.args.elements.now in
    let (some_chunks, last_is) = rw c.in-Some.is at (c.in_ok-last.ensures {u = tt}) in
    let some : ¬ IsEmptyBox elements = λ empty.
    let any = lies_some ds elements c.requires.lies empty in
    let is = subst (AnswersEmptyCover ds) (c.in_ok-cover.ensures {u = tt}) (c.chunks_in_array_subset.ensures.empty empty any) in
    some_chunks (rw is (zeros_empty (length ds) any))
    in
    let (_, is_cover) = subst (AnswersCover ds elements) (c.in_ok-cover.ensures {u = tt}) (c.chunks_in_array_subset.ensures.answers (inl some)) in
    record {
      same_grid = refl;
      same_each = refl;
      same_elements = refl;
      some = some;
      is_cover = is_cover;
      last = last_is;
      is_box = (c.in_ok-groups.ensures {u = tt}).is_box;
      named = (c.in_ok-groups.ensures {u = tt}).groups;
    }
