use Rattle.zarrs_chunk_plan.proofs.Common.{◌≡◌, ◌∙◌, ◌≤◌, Contains, [], length, map, ap, refl, sym, true≢false, arith, row_major, chunks_in}
use Rattle.zarrs_chunk_plan.proofs.Common.{counted_from, rank}
use Rattle.zarrs_chunk_plan.specs.seen.Between.{end_rank}
use Rattle.zarrs_chunk_plan.proofs.shares.BeforeShares.{before_next}
use Rattle.zarrs_chunk_plan.proofs.shares.Between.{begins_before, begins_with, none_below, share_map, share_nil}
use Rattle.zarrs_chunk_plan.proofs.shares.chunk_iter.ChunkIter.new.Goals as goal

pub returns-then-is_empty-clause-left : goal.returns-then-is_empty-clause-left
returns-then-is_empty-clause-left c =
    let chunks = c.args.chunks in
    let none : chunks_in chunks ≡ [] = ap (map (counted_from chunks.start)) (none_below chunks.shape (c.is_empty.ensures.0 c.if-is_empty.true)) in
    sym (share_nil c.args.share.now (chunks_in chunks) none)

pub invariant_of-result-2 : goal.invariant_of-result-2
invariant_of-result-2 c =
    let shape = c.args.chunks.shape in
    let share = c.args.share.now in
    let some : ¬ Contains shape 0 = λ zero. true≢false (sym (c.is_empty.ensures.1 zero) ∙ c.if-is_empty.false) in
    let (below, at) = (rw c.shape.ensures.value at c.in_ok-next.ensures) some in
    let end_below = (rw c.shape-2.ensures.value at c.in_ok-end.ensures.below) some in
    let end_at = (rw c.shape-2.ensures.value at c.in_ok-end.ensures.rank) some in
    let next = before_next share.number share.of (length (row_major shape)) (omega arith) in
    let low : rank shape c.in_ok-next.next.items ≤ end_rank shape c.in_ok-end.end = omega arith in
    let told = rw c.as_slice.ensures at c.is_end-over.ensures in
    record {
      below = λ _. below;
      end_below = end_below;
      before = begins_before shape c.in_ok-end.end end_below c.in_ok-next.next.items c.is_end-over.result below low told;
    }

pub returns-clause-left : goal.returns-clause-left
returns-clause-left c =
    let chunks = c.args.chunks in
    let shape = chunks.shape in
    let some : ¬ Contains shape 0 = λ zero. true≢false (sym (c.is_empty.ensures.1 zero) ∙ c.if-is_empty.false) in
    let (below, at) = (rw c.shape.ensures.value at c.in_ok-next.ensures) some in
    let end_below = (rw c.shape-2.ensures.value at c.in_ok-end.ensures.below) some in
    let end_at = (rw c.shape-2.ensures.value at c.in_ok-end.ensures.rank) some in
    let told = rw c.as_slice.ensures at c.is_end-over.ensures in
    ap (map (counted_from chunks.start))
    (begins_with shape c.in_ok-end.end end_below c.in_ok-next.next.items c.is_end-over.result told ∙ rw (at, end_at) refl)
    ∙ sym (share_map (counted_from chunks.start) c.args.share.now (row_major shape))
