use Rattle.std.proofs.Common.{refl}
use Rattle.zarrs_chunk_parts.proofs.part.part_of.Goals as goal

pub returns-clause-part : goal.returns-clause-part
returns-clause-part g c = λ meets. record {
  numbers = refl;
  key = rw c.as_slice-2.ensures at c.in_ok-key.ensures;
  shape = rw c.as_slice.ensures at c.in_ok-shared.ensures.shape;
  whole = (rw c.as_slice.ensures at c.in_ok-shared.ensures.whole) meets;
  boxes = (rw c.as_slice.ensures at c.in_ok-shared.ensures.boxes) meets;
}
