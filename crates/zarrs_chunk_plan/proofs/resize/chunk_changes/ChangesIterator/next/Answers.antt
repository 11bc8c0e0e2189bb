use Rattle.zarrs_chunk_plan.proofs.Common.{◌∷◌, ◌∙◌, ap, subst, sym, changes_to_come, chunks_of_boxes, IsChange}
use Rattle.zarrs_chunk_plan.specs.seen.Changes.{CanChange}
use Rattle.zarrs_chunk_plan.proofs.resize.chunk_changes.ChangesIterator.next.Goals as goal

pub returns-in-Ok-change_of-clause-steps : goal.returns-in-Ok-change_of-clause-steps
returns-in-Ok-change_of-clause-steps g c =
    let same = c.next_chunk.ensures.same in
    let change = c.in-Ok-change_of.change in
    let is_chunk = c.in-Ok-change_of.ensures.chunk in
    let gives = rw c.in-Ok.is at c.in_ok-chunk.ensures.gives in
    let can_still : CanChange g.G.ChunkGridTraits.dimensions g.H.ChunkGridTraits.dimensions c.args.self.now
    → CanChange g.G.ChunkGridTraits.dimensions g.H.ChunkGridTraits.dimensions c.next_chunk.new.self =
    λ can. record {
      array_before = rw (same.same_array_before, same.same_before) can.array_before;
      array_after = rw (same.same_array_after, same.same_after) can.array_after;
      changed = rw (same.same_uses, same.same_before, same.same_after) can.changed;
    } in
    record {
      gives = gives ∙ ap (λ chunk. chunk ∷ changes_to_come c.next_chunk.new.self) (sym is_chunk);
      change = λ can.
          subst
          (λ first. IsChange (g.G.ChunkGridTraits.dimensions c.args.self.now.before.now) (g.H.ChunkGridTraits.dimensions c.args.self.now.after.now)
          (g.E.ChunkKeyEncodingTraits.is_key c.args.self.now.encoding.now) first change) (sym is_chunk)
          (rw (same.same_before, same.same_after, same.same_encoding) at (c.in-Ok-change_of.ensures.change (can_still can)));
      about = record { same_before = same.same_before; same_after = same.same_after; same_encoding = same.same_encoding };
      can = can_still;
      all = ap chunks_of_boxes same.same_boxes;
    }
