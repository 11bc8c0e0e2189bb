use Rattle.zarrs_chunk_plan.proofs.Common.{◌≡◌, ◌∙◌, length, ap, ⊎_elim, subst, sym, length-replicate, AreWithin}
use Rattle.zarrs_chunk_plan.proofs.BoxCover.{below_from_zero}
use Rattle.zarrs_chunk_plan.proofs.Plans.{empty_or_some}
use Rattle.zarrs_chunk_plan.proofs.resize.used.chunks_along.Goals as goal

pub returns : goal.returns
returns g c =
    let ds = g.G.ChunkGridTraits.dimensions c.args.grid.now in
    let chunks = c.in_ok-chunks.chunks in
    let start = c.in_ok-chunks.ensures.start in
    let many : length chunks.shape ≡ length ds = sym c.shape.ensures.is_box.lengths ∙ ap length start ∙ length-replicate (length ds) 0 in
    let sizes : c.in_ok-sizes.sizes.items ≡ chunks.shape = c.in_ok-sizes.ensures.items ∙ c.shape.ensures.value in
    rw sizes (record {
      long = many;
      those = λ chunk.
          let below = below_from_zero (length ds) chunks.shape chunk many in
          let named = c.in_ok-chunks.ensures.named chunk in (
            λ less. named.0 (subst (λ first. AreWithin first chunks.shape chunk) (sym start) (below.0 less)),
            λ used. below.1 (subst (λ first. AreWithin first chunks.shape chunk) start (named.1 used)),
          );
      none = λ has. ⊎_elim (λ empty. ap (λ b. b.shape) (c.in_ok-chunks.ensures.empty empty)) (λ some. absurd (c.in_ok-chunks.ensures.some some has))
          (empty_or_some c.in_ok-array.array.shape);
    })
