use Rattle.std.proofs.Common.{◌∙◌, ap, map}
use Rattle.zarrs_chunks.specs.Walks.{box_at, boxed, chunks_of}
use Rattle.zarrs_chunk_questions.specs.Trees.{box_tree, numbers_tree}
use Rattle.zarrs_chunk_questions.specs.seen.Walked.{both_trees}
use Rattle.zarrs_chunk_questions.proofs.WalkPages.{each_of_each, first_of_all}
use Rattle.zarrs_chunk_questions.proofs.walk_items.items_of_walk.Goals as goal

pub returns-in-Chunks : goal.returns-in-Chunks
returns-in-Chunks g c =
    let ds = g.G.ChunkGridTraits.dimensions c.args.grid.now in
    rw c.in-Chunks.is
    (first_of_all c.args.limits.now.most c.args.limits.now.too_many _ (map numbers_tree (chunks_of ds)) (ap (map numbers_tree) c.iter_chunk_indices.ensures) c.first_items.result
    c.first_items.ensures)

pub returns-in-Boxes : goal.returns-in-Boxes
returns-in-Boxes g c =
    let ds = g.G.ChunkGridTraits.dimensions c.args.grid.now in
    let chunks = boxed ds (chunks_of ds) in
    rw c.in-Boxes.is
    (first_of_all c.args.limits.now.most c.args.limits.now.too_many _ (map (λ chunk. box_tree (box_at ds chunk)) chunks)
    (ap (map box_tree) c.iter_chunk_subsets.ensures.left ∙ each_of_each (box_at ds) box_tree chunks) c.first_items-in-Boxes.result
    c.first_items-in-Boxes.ensures)

pub returns-in-ChunksAndBoxes : goal.returns-in-ChunksAndBoxes
returns-in-ChunksAndBoxes g c =
    let ds = g.G.ChunkGridTraits.dimensions c.args.grid.now in
    let chunks = boxed ds (chunks_of ds) in
    rw c.in-ChunksAndBoxes.is
    (first_of_all c.args.limits.now.most c.args.limits.now.too_many _ (map (λ chunk. both_trees (chunk, box_at ds chunk)) chunks)
    (ap (map both_trees) c.iter_chunk_indices_and_subsets.ensures.left ∙ each_of_each (λ chunk. (chunk, box_at ds chunk)) both_trees chunks)
    c.first_items-in-ChunksAndBoxes.result c.first_items-in-ChunksAndBoxes.ensures)
