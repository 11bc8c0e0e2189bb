use Rattle.std.proofs.Common.{◌≡◌, ◌<◌, ◌++◌, ◌∙◌, codes, length, refl, string_bytes, subst, sym, rules, arith}
use Rattle.std.proofs.lemmas.Bool.{eqb-false, eqb-true}
use Rattle.zarrs_chunk_keys.specs.ChunkKey.{IsKey, IsV2Key, zero_alone}
use Rattle.zarrs_chunk_keys.specs.Numeral.{AreJoined}
use Rattle.zarrs_chunk_keys.proofs.KeyEnds.{v2_has_no_slash}
use Rattle.zarrs_chunk_keys.proofs.ReadKeys.{empty, v2_of_joined}
use Rattle.zarrs_chunk_keys.proofs.chunk_key_encoding.v2.V2ChunkKeyEncodingOfKind.append.Goals as goal

pub returns-then-is_empty-clause-appended : goal.returns-then-is_empty-clause-appended
unfolding IsKey
returns-then-is_empty-clause-appended c =
    let separator = c.args.self.now.separator in
    let chunk = c.args.chunk_indices.now in
    let longer : string_bytes c.push.new.self ≡ string_bytes c.args.text.now ++ codes "0" = search rules in
    let none = eqb-true (length chunk) 0 (sym c.is_empty.ensures ∙ c.if-is_empty.true) in
    let is_key : IsV2Key separator chunk (codes "0") = zero_alone (empty chunk none) refl in
    (codes "0", is_key, v2_has_no_slash separator chunk (codes "0") is_key, longer)

pub returns-clause-appended : goal.returns-clause-appended
unfolding IsKey
returns-clause-appended c =
    let (key, are_joined, longer) = c.in_ok-write_joined.ensures.appended in
    let separator = c.args.self.now.separator in
    let chunk = c.args.chunk_indices.now in
    let not_empty = eqb-false (length chunk) 0 (sym c.is_empty.ensures ∙ c.if-is_empty.false) in
    let some : 0 < length chunk = omega (arith, not_empty) in
    let is_key = v2_of_joined separator chunk key some (subst (λ between. AreJoined between chunk key) c.as_char.ensures are_joined) in
    (key, is_key, v2_has_no_slash separator chunk key is_key, longer)
