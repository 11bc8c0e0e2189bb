use Rattle.zarrs_chunk_plan.proofs.SomeResizes.{all_changes_to_come}
use Rattle.zarrs_chunk_plan.proofs.laws.the_walk_gives_the_resize.Goals as goal

pub returns-clause-to_come : goal.returns-clause-to_come
returns-clause-to_come g c = λ walk changes can.
    all_changes_to_come g.G.ChunkGridTraits.dimensions g.H.ChunkGridTraits.dimensions g.E.ChunkKeyEncodingTraits.is_key walk changes can

pub returns-clause-plan : goal.returns-clause-plan
returns-clause-plan g c = λ include_unchanged walk changes are about given. record {
  chunks = _;
  are_chunks = are;
  are_changes = rw (about.same_before, about.same_after, about.same_encoding) at given;
}
