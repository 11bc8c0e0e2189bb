use Rattle.std.proofs.Common.{◌≡◌, ◌++◌, ◌∙◌, codes, ap, append_assoc, string_bytes, subst, rules}
use Rattle.zarrs_chunk_keys.specs.ChunkKey.{IsKey}
use Rattle.zarrs_chunk_keys.specs.Numeral.{IsNumerals}
use Rattle.zarrs_chunk_keys.proofs.KeyEnds.{default_has_no_slash}
use Rattle.zarrs_chunk_keys.proofs.Keys.{is_default_key}
use Rattle.zarrs_chunk_keys.proofs.chunk_key_encoding.default.DefaultChunkKeyEncodingOfKind.append.Goals as goal

pub returns-clause-appended : goal.returns-clause-appended
unfolding IsKey
returns-clause-appended c =
    let (numerals, are_numerals, longer) = c.in_ok-write_numerals.ensures.appended in
    let chunk = c.args.chunk_indices.now in
    let separator = c.args.self.now.separator in
    let old = string_bytes c.args.text.now in
    let begun : string_bytes c.push.new.self ≡ old ++ codes "c" = search rules in
    let are = subst (λ before. IsNumerals before chunk numerals) c.as_char.ensures are_numerals in
    let is_key = is_default_key separator chunk numerals are in (
      codes "c" ++ numerals,
      is_key,
      default_has_no_slash separator chunk (codes "c" ++ numerals) is_key,
      longer ∙ ap (λ t. t ++ numerals) begun ∙ append_assoc old (codes "c") numerals,
    )
