use Rattle.zarrs_chunk_plan.proofs.KnownMarks.{mark_is}
use Rattle.zarrs_chunk_plan.proofs.laws.a_chunk_is_marked_if_its_key_is_listed.Goals as goal

pub returns : goal.returns
returns g c = λ targets keys stored known chunk. mark_is _ _ targets keys stored known chunk
