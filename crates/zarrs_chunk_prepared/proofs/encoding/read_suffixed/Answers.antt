use Rattle.std.proofs.Common.{IsUtf8, subst, ◌∙◌}
use Rattle.zarrs_chunk_prepared.proofs.encoding.read_suffixed.Goals as goal

pub returns-in-Ok-new : goal.returns-in-Ok-new
returns-in-Ok-new c =
    let (bytes, are) = rw c.in-Some.is at c.in_ok-bytes.ensures in
    let same = c.deref.ensures.value ∙ are in
    let (is_text, utf8) = c.in-Ok.ensures.cases in
    let all = c.in_ok-suffix.ensures.ok ∙ is_text ∙ same in
    let (no_slash, is) = rw all at c.in-Ok-new.ensures in
    ((bytes, subst IsUtf8 same utf8, no_slash), is)
