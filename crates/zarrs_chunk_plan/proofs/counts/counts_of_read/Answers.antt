use Rattle.zarrs_chunk_plan.proofs.Common.{◌∙◌}
use Rattle.zarrs_chunk_plan.proofs.Plans.{covers_any}
use Rattle.zarrs_chunk_plan.proofs.counts.CountedParts.{of_plan}
use Rattle.zarrs_chunk_plan.proofs.counts.counts_of_read.Goals as goal

pub returns-clause-counts : goal.returns-clause-counts
returns-clause-counts g c =
    let covers = covers_any _ _ _ (g.met.G.ChunkGridTraits.chained c.args.array.now.grid) c.is_a_box.ensures
    (rw c.in-Some.is at c.in_ok-cover.ensures.empty) (rw c.in-Some.is at c.in_ok-cover.ensures.answers)
    in
    let chunks = c.in_ok-to_vec.ensures.items_if_clones_equal (λ x y same. same) ∙ c.shape.ensures.value in
    let elements = c.in_ok-to_vec-2.ensures.items_if_clones_equal (λ x y same. same) ∙ c.shape-2.ensures.value in
    record {
      cover = c.in-Some.cover;
      is_cover = covers;
      chunks = chunks;
      elements = elements;
      of_plan = of_plan _ _ _ _ chunks elements _ _ c.is_a_box.ensures covers;
    }
