use Rattle.std.proofs.Common.{◌≡◌, ◌∙◌, ℕ, List, ap, append-nil, inl, refl, subst, sym, length, arith, map}
use Rattle.std.specs.Int.NonZero.{non_zero_u64_get}
use Rattle.zarrs_chunks.proofs.ChunksInBoxes.{are_those_inside}
use Rattle.zarrs_chunks.specs.Subsets.{AnswersCover, AnswersEmptyCover}
use Rattle.zarrs_chunks.specs.Walks.{chunks_in}
use Rattle.zarrs_chunk_plan.proofs.MovedBoxes.{lies_some}
use Rattle.zarrs_chunk_plan.proofs.Plans.{all_of_each}
use Rattle.zarrs_chunk_plan.proofs.ShareLists.{shares_are_all}
use Rattle.zarrs_chunk_plan.specs.Shares.{numbered_share}
use Rattle.zarrs_chunk_plan.specs.seen.ChunkIter.{chunks_between}
use Rattle.zarrs_chunk_tasks.specs.Groups.{HoldsSomeOf}
use Rattle.zarrs_chunk_tasks.proofs.GroupBoxes.{zeros_empty}
use Rattle.zarrs_chunk_tasks.proofs.walk.Tasks.new.Goals as goal

-- the one share that is all
whole_is : {X : Type 0} (number of : ℕ) (xs : List X) → number ≡ 0 → of ≡ 1 → numbered_share number of xs ≡ xs
whole_is number of xs first one = rw (first, one) (sym (append-nil (numbered_share 0 1 xs)) ∙ shares_are_all 1 xs (omega arith))

pub groups_over-requires-clause-empty : goal.groups_over-requires-clause-empty
groups_over-requires-clause-empty g c = λ empty.
    let ds = g.G.ChunkGridTraits.dimensions c.args.grid.now in
    let some = lies_some ds c.args.elements c.requires.lies empty in
    let is = subst (AnswersEmptyCover ds) (c.in_ok-cover.ensures {u = tt}) (c.chunks_in_array_subset.ensures.empty empty some) in
    rw is (zeros_empty (length ds) some)

pub returns : goal.returns
returns g c =
    let ds = g.G.ChunkGridTraits.dimensions c.args.grid.now in
    let each = map non_zero_u64_get c.args.each.now in
    let groups = c.in_ok-groups.groups in
    let are = c.in_ok-groups.ensures.groups in
    let is_box = c.in_ok-groups.ensures.is_box in
    let left : chunks_between c.in_ok-new.field-0 ≡ chunks_in groups =
    c.in_ok-new.ensures.left ∙ whole_is c.whole.result.number c.whole.result.of (chunks_in groups) c.whole.ensures.number c.whole.ensures.of
    in
    let hold = all_of_each (HoldsSomeOf ds each c.args.elements) (chunks_in groups)
    (λ group among. (are group).0 ((are_those_inside groups is_box group).0 among)) in
    rw (c.elements.view_is, c.cover.view_is) (record {
      about = record { same_grid = refl; same_each = refl; same_elements = refl; same_first = refl; same_at = refl };
      can = record {
        cover = λ some. (subst (AnswersCover ds c.args.elements) (c.in_ok-cover.ensures {u = tt}) (c.chunks_in_array_subset.ensures.answers (inl some))).1;
        all = rw (ap chunks_in c.in_ok-new.ensures.chunks) hold;
        hold = rw left hold;
      };
      groups = groups;
      is_box = is_box;
      are_groups = are;
      left = left;
      all = ap chunks_in c.in_ok-new.ensures.chunks;
    })
