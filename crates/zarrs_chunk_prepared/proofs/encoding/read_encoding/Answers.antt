use Rattle.std.proofs.Common.{MatchOption, None, Option, Some, IfSome, List, ◌≡◌, ◌∙◌, IsUtf8, length, refl, rules, subst, sym, ℕ}
use Rattle.std.proofs.lemmas.Result.{IfOk-weaker}
use Rattle.zarrs_chunk_base.specs.StoreKey.{EndsInSlash}
use Rattle.zarrs_chunk_keys.specs.ChunkKey.{Encoding, default_keys, v2_keys}
use Rattle.zarrs_chunk_keys.specs.declared.chunk_key_encoding.named.ChunkKeyEncoding.{ChunkKeyEncoding}
use Rattle.zarrs_chunk_keys.specs.seen.Encodings.{encoding_in}
use Rattle.zarrs_chunk_prepared.specs.PreparedEncoding.{AreBytes, IsPreparedEncoding}
use Rattle.zarrs_chunk_prepared.proofs.PreparedEncodings.{suffixed_told, with_suffix, without_suffix}
use Rattle.zarrs_chunk_prepared.proofs.encoding.read_encoding.Goals as goal

-- what is found where P holds is the encoding, and P holds where something is
is_found : (P : Type 0) (e encoding : Encoding) (found : Option ChunkKeyEncoding) → MatchOption found (¬ P) (λ read. P × (encoding_in read ≡ e))
    → P → e ≡ encoding → MatchOption found ⊥ (λ read. encoding_in read ≡ encoding)
is_found P e encoding None h p same = h p
is_found P e encoding (Some read) h p same = h.1 ∙ same

are_numbers : (P : Type 0) (e : Encoding) (numbers : List ℕ) (found : Option ChunkKeyEncoding)
    → MatchOption found (¬ P) (λ read. P × (encoding_in read ≡ e)) → (P → IsPreparedEncoding numbers e)
    → IfSome found (λ read. IsPreparedEncoding numbers (encoding_in read))
are_numbers P e numbers None h prepared = tt
are_numbers P e numbers (Some read) h prepared = rw h.1 (prepared h.0)

pub returns-in-2-clause-encoding : goal.returns-in-2-clause-encoding
returns-in-2-clause-encoding c =
    let (_, is_head, is_suffix, _, _) = c.in-Some.ensures.cases in
    IfOk-weaker c.read_suffixed.result _ _
    (λ found reads encoding prepared.
    let (suffix, is) = suffixed_told encoding c.in-Some-separator_with_byte.separator c.args.numbers.now c.in-Some.head.now c.in-Some.suffix.now
    prepared.are is_head is_suffix c.in-2.is c.in-Some-separator_with_byte.ensures in
    is_found _ _ encoding found reads (
      subst AreBytes (sym suffix) prepared.bytes,
      subst IsUtf8 (sym suffix) prepared.utf8,
      λ ends. prepared.no_slash (subst EndsInSlash suffix ends),
    ) is)
    c.read_suffixed.ensures

pub returns-in-2-clause-numbers : goal.returns-in-2-clause-numbers
returns-in-2-clause-numbers c =
    IfOk-weaker c.read_suffixed.result _ _
    (λ found reads. are_numbers _ _ c.args.numbers.now found reads
    (λ fit. with_suffix c.args.numbers.now c.in-Some.head.now c.in-Some.suffix.now c.in-Some.ensures.cases c.if-head-ne-ENCODING_MARK.false
    c.in-Some-separator_with_byte.separator c.in-Some-separator_with_byte.ensures c.in-2.is fit.0 fit.1 fit.2))
    c.read_suffixed.ensures

pub returns-in-0-clause-numbers : goal.returns-in-0-clause-numbers
returns-in-0-clause-numbers c =
    let separator = c.in-Some-separator_with_byte.separator in
    let none : length c.in-Some.suffix.now ≡ 0 = search rules in
    rw c.new.ensures
    (without_suffix c.args.numbers.now c.in-Some.head.now c.in-Some.suffix.now c.in-Some.ensures.cases c.if-head-ne-ENCODING_MARK.false
    separator c.in-Some-separator_with_byte.ensures (default_keys separator) refl refl c.in-0.is none)

pub returns-in-1-clause-numbers : goal.returns-in-1-clause-numbers
returns-in-1-clause-numbers c =
    let separator = c.in-Some-separator_with_byte.separator in
    let none : length c.in-Some.suffix.now ≡ 0 = search rules in
    rw c.new-in-1.ensures
    (without_suffix c.args.numbers.now c.in-Some.head.now c.in-Some.suffix.now c.in-Some.ensures.cases c.if-head-ne-ENCODING_MARK.false
    separator c.in-Some-separator_with_byte.ensures (v2_keys separator) refl refl c.in-1.is none)
