use Rattle.zarrs_chunk_plan.proofs.Common.{◌∙◌, sym}
use Rattle.std.proofs.lemmas.Bool.{true≢false}
use Rattle.zarrs_chunk_plan.specs.seen.ChunkIter.{chunks_between}
use Rattle.zarrs_chunk_plan.proofs.resize.ChunksChanged.{passed, some_to_come}
use Rattle.zarrs_chunk_plan.proofs.resize.chunk_changes.Changes.go_to_next_box.Goals as goal

pub returns-then-is_empty-clause-left : goal.returns-then-is_empty-clause-left
returns-then-is_empty-clause-left g c =
    let before = c.args.self.now in
    passed before.boxes.items before.next_box c.index.result.now c.requires.within (sym c.index.ensures) (chunks_between before.chunks) c.requires.none
    (c.is_empty.ensures.0 c.if-is_empty.true)

pub returns-in-Err-clause-some : goal.returns-in-Err-clause-some
returns-in-Err-clause-some g c =
    let before = c.args.self.now in
    some_to_come before.boxes.items before.next_box c.index.result.now c.requires.within (sym c.index.ensures) (chunks_between before.chunks) c.requires.none
    (λ empty. true≢false (sym (c.is_empty.ensures.1 empty) ∙ c.if-is_empty.false))
