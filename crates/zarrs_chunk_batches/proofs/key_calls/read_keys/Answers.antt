use Rattle.std.proofs.Common.{inr, refl}
use Rattle.zarrs_chunk_batches.proofs.key_calls.read_keys.Goals as goal

pub returns-in-Some-clause-one : goal.returns-in-Some-clause-one
returns-in-Some-clause-one c encoding prepared = rw c.in-Some.is at c.in_ok-encoding.ensures.encoding encoding prepared

pub returns-in-None-clause-one : goal.returns-in-None-clause-one
returns-in-None-clause-one c = inr (refl, λ encoding prepared. rw c.in-None.is at c.in_ok-encoding.ensures.encoding encoding prepared)
