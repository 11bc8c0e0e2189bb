use Rattle.std.proofs.Common.{◌++◌, ◌∙◌, ap, append_assoc, refl, string_bytes}
use Rattle.zarrs_chunk_keys.specs.ChunkKey.{IsKey, IsSuffixedKey, suffixed}
use Rattle.zarrs_chunk_keys.proofs.KeyEnds.{together_no_slash}
use Rattle.zarrs_chunk_keys.proofs.chunk_key_encoding.default_suffix.DefaultSuffixChunkKeyEncodingOfKind.append.Goals as goal

pub returns-clause-appended : goal.returns-clause-appended
unfolding IsKey
returns-clause-appended c =
    let (key, is_key, no_slash, begun) = c.in_ok-append.ensures.appended in
    let separator = c.args.self.now.keys.separator in
    let chunk = c.args.chunk_indices.now in
    let old = string_bytes c.args.text.now in
    let suffix = c.args.self.now.suffix in
    let is_suffixed : IsSuffixedKey separator suffix chunk (key ++ suffix) = suffixed is_key refl in (
      key ++ suffix,
      is_suffixed,
      together_no_slash key suffix no_slash c.as_str.ensures.no_slash,
      c.in_ok-push_str.ensures.bytes ∙ ap (λ t. string_bytes c.append.new.text ++ t) c.as_str.ensures.value ∙ ap (λ t. t ++ suffix) begun
          ∙ append_assoc old key suffix,
    )
