use Rattle.zarrs_chunk_plan.proofs.Common.{inl, subst}
use Rattle.zarrs_chunks.specs.Subsets.{AnswersCover, AnswersEmptyCover}
use Rattle.zarrs_chunk_plan.proofs.BoxCover.{cover_many, cover_names, cover_start, cover_uses, some_dimension}
use Rattle.zarrs_chunk_plan.proofs.copy.array_chunks.chunks_of_array.Goals as goal

pub returns-clause-lengths : goal.returns-clause-lengths
returns-clause-lengths g c =
    let cover = c.chunks_in_array_subset-cover in
    cover_many _ _ (some_dimension _) cover.result (rw c.requires at cover.ensures.empty) (rw c.requires at cover.ensures.answers)
    c.in_ok-found_or_out_of_memory.field-0 c.in_ok-found_or_out_of_memory.ensures

pub returns-clause-named : goal.returns-clause-named
returns-clause-named g c =
    let cover = c.chunks_in_array_subset-cover in
    cover_names _ _ (some_dimension _) cover.result (rw c.requires at cover.ensures.empty) (rw c.requires at cover.ensures.answers)
    c.in_ok-found_or_out_of_memory.field-0 c.in_ok-found_or_out_of_memory.ensures (g.met.G.ChunkGridTraits.chained c.args.grid.now)
    (rw c.requires at c.is_a_box.ensures)

pub returns-clause-start : goal.returns-clause-start
returns-clause-start g c =
    let cover = c.chunks_in_array_subset-cover in
    cover_start _ cover.result (rw c.requires at cover.ensures.empty) (rw c.requires at cover.ensures.answers) c.in_ok-found_or_out_of_memory.field-0
    c.in_ok-found_or_out_of_memory.ensures (g.met.G.ChunkGridTraits.chained c.args.grid.now)

pub returns-clause-each : goal.returns-clause-each
returns-clause-each g c =
    let cover = c.chunks_in_array_subset-cover in
    cover_uses _ cover.result (rw c.requires at cover.ensures.empty) (rw c.requires at cover.ensures.answers) c.in_ok-found_or_out_of_memory.field-0
    c.in_ok-found_or_out_of_memory.ensures (g.met.G.ChunkGridTraits.chained c.args.grid.now) (rw c.requires at c.is_a_box.ensures)

pub returns-clause-empty : goal.returns-clause-empty
returns-clause-empty g c = λ empty.
    let ds = g.G.ChunkGridTraits.dimensions c.args.grid.now in
    let cover = c.chunks_in_array_subset-cover in
    subst (AnswersEmptyCover ds) c.in_ok-found_or_out_of_memory.ensures (cover.ensures.empty empty (some_dimension ds (rw c.requires at empty)))

pub returns-clause-some : goal.returns-clause-some
returns-clause-some g c = λ some.
    let ds = g.G.ChunkGridTraits.dimensions c.args.grid.now in
    let cover = c.chunks_in_array_subset-cover in
    (subst (AnswersCover ds c.args.array.now) c.in_ok-found_or_out_of_memory.ensures (cover.ensures.answers (inl some))).1.some
