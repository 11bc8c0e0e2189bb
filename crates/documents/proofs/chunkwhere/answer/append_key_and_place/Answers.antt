use Rattle.std.proofs.Common.{append_assoc}
use Rattle.documents.proofs.chunkwhere.answer.append_key_and_place.Goals as goal

pub returns : goal.returns
returns g c =
    let (key, is_key, begun) = rw c.deref.ensures.value at c.in_ok-append_key.ensures.appended in
    let (numbers, are_numerals, longer) = rw c.deref-2.ensures.value at c.in_ok-append_numerals.ensures.appended in
    (key, numbers, is_key, are_numerals, rw (c.in_ok-push_str.ensures.bytes, longer, begun) (simp append_assoc))
