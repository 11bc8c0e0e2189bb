use Rattle.std.proofs.Common.{ℕ, ◌<◌, List, length, refl, slice_index_or, subst}
use Rattle.std.proofs.Common.{IsUtf8}
use Rattle.zarrs_chunk_prepared.proofs.encoding.prepare_encoding.Goals as goal

pub returns : goal.returns
returns c =
    let AreBytes = λ (bytes : List ℕ). (k : ℕ) → k < length bytes → slice_index_or bytes k 0 < 256 in
    let value = c.suffix.ensures.value in
    record {
      are = rw (
        c.in_ok-append_bytes.ensures.appended,
        c.in_ok-push-3.ensures.items,
        c.in_ok-push-2.ensures.items,
        c.in_ok-push.ensures.items,
        c.new-numbers.ensures.items,
        c.number_of_kind.ensures,
        c.byte_of.ensures,
        c.separator.ensures,
        c.as_bytes.ensures.value,
        value,
      ) refl;
      bytes = subst AreBytes value (subst AreBytes c.as_bytes.ensures.value c.in_ok-append_bytes.ensures.fit);
      utf8 = subst IsUtf8 value (subst IsUtf8 c.as_bytes.ensures.value c.as_bytes.ensures.utf8);
      no_slash = λ ends. c.suffix.ensures.no_slash (rw value ends);
    }
