use Rattle.zarrs_chunk_plan.proofs.Common.{◌∙◌, ap, chunks_in, is_stored}
use Rattle.zarrs_chunk_plan.specs.seen.Parts.{all_chunks}
use Rattle.zarrs_chunk_plan.proofs.copy.MarkedChunks.{knows_none, none_set}
use Rattle.zarrs_chunk_plan.proofs.read.walk.Parts.none_stored.Goals as goal

pub returns-clause-none : goal.returns-clause-none
unfolding is_stored
returns-clause-none g c =
    let walk = c.args.self.now in
    let ds = g.G.ChunkGridTraits.dimensions walk.grid.now in
    let K = g.E.ChunkKeyEncodingTraits.is_key walk.encoding.now in
    let held = rw c.grid-grid.ensures at c.in_ok-chunks_of_array.ensures.named in
    let same = ap chunks_in c.in_ok-clone.ensures ∙ c.box_of_all-targets.ensures in
    knows_none ds K (all_chunks walk) _ held (rw c.in_ok-clone.ensures c.is_a_box.ensures) same (λ number. rw c.in_ok-zeros.ensures (none_set c.in-Some.words number))
