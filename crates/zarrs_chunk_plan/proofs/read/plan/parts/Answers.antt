use Rattle.zarrs_chunk_plan.proofs.Plans.{covers_any}
use Rattle.zarrs_chunk_plan.proofs.read.plan.parts.Goals as goal

pub returns-clause-planned : goal.returns-clause-planned
returns-clause-planned g c = record {
  about = rw c.in_ok-clone.ensures at c.in_ok-new.ensures.about;
  cover = c.in-Some.cover;
  is_cover = covers_any _ _ _ (g.met.G.ChunkGridTraits.chained c.args.grid.now) c.is_a_box.ensures (rw c.in-Some.is at c.in_ok-cover.ensures.empty)
      (rw c.in-Some.is at c.in_ok-cover.ensures.answers);
  left = c.in_ok-new.ensures.left;
  all = c.in_ok-new.ensures.all;
}
