use Rattle.zarrs_chunk_plan.proofs.Common.{◌≡◌, ◌∷◌, ◌∙◌, ap, refl, subst, sym, AllByRecursion, chunks_in, IsPart, Meets}
use Rattle.zarrs_chunk_plan.specs.seen.ChunkIter.{chunks_between}
use Rattle.zarrs_chunk_plan.proofs.read.walk.PartsIterator.next.Goals as goal

pub returns-in-Ok-part-clause-steps : goal.returns-in-Ok-part-clause-steps
returns-in-Ok-part-clause-steps g c =
    let before = c.args.self.now in
    let ds = g.G.ChunkGridTraits.dimensions before.grid.now in
    let IsKey = g.E.ChunkKeyEncodingTraits.is_key before.encoding.now in
    let subset = before.array_subset in
    let part = c.in-Ok-part.part in
    let rest = chunks_between c.next.new.self in
    let steps = rw c.in-Ok.is at c.in_ok-chunk.ensures.steps in
    let gives : chunks_between before.chunks ≡ c.in-Ok.chunk.items ∷ rest = steps.gives in
    let same : part.chunk.items ≡ c.in-Ok.chunk.items = c.in-Ok-part.ensures.chunk in
    record {
      gives = gives ∙ ap (λ first. first ∷ rest) (sym same);
      part = λ meet.
          let meets = subst (AllByRecursion (Meets ds subset)) gives meet in
          subst (λ first. IsPart ds IsKey subset first part) (sym same) (c.in-Ok-part.ensures.part meets.0);
      about = record { same_grid = refl; same_encoding = refl; same_subset = refl };
      meet = λ meet. (subst (AllByRecursion (Meets ds subset)) gives meet).1;
      all = ap chunks_in steps.chunks;
    }
