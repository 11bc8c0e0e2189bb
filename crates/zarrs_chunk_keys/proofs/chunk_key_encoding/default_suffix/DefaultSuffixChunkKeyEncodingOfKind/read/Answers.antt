use Rattle.std.proofs.Common.{◌≡◌, ◌∙◌, ◌++◌, ℕ, List, Some, None, ap, subst, sym}
use Rattle.std.proofs.lemmas.Bool.Decides.{Decides-eqb}
use Rattle.std.proofs.lemmas.Slice.Eq.{strip_suffix_is}
use Rattle.zarrs_chunk_base.specs.declared.chunk_key_separator.ChunkKeySeparator.{ChunkKeySeparator}
use Rattle.zarrs_chunk_keys.specs.ChunkKey.{IsDefaultKey, IsKey, IsSuffixedKey, suffixed}
use Rattle.zarrs_chunk_keys.specs.lemmas.Parts.{same_front}
use Rattle.zarrs_chunk_keys.proofs.ReadKeys.{read_as}
use Rattle.zarrs_chunk_keys.proofs.chunk_key_encoding.default_suffix.DefaultSuffixChunkKeyEncodingOfKind.read.Goals as goal

-- a key with a suffix ends in it
ends_in_suffix : (separator : ChunkKeySeparator) (suffix chunk key : List ℕ) → IsSuffixedKey separator suffix chunk key
    → (front : List ℕ) × (key ≡ front ++ suffix)
ends_in_suffix separator suffix chunk key (suffixed {front = front} is ends) = (front, ends)

-- what stands before the suffix of a key is a default key
before_suffix : (separator : ChunkKeySeparator) (suffix chunk key front : List ℕ) → key ≡ front ++ suffix
    → IsSuffixedKey separator suffix chunk key → IsDefaultKey separator chunk front
before_suffix separator suffix chunk key front ends (suffixed {front = other} is also) =
    subst (IsDefaultKey separator chunk) (same_front other front suffix (sym also ∙ ends)) is

pub returns-in-Some : goal.returns-in-Some
unfolding IsKey
returns-in-Some c =
    let separator = c.args.self.now.keys.separator in
    let suffix = c.args.self.now.suffix in
    let key = c.args.key.now in
    let front = c.in-Some.front.now in
    let ends : key ≡ front ++ suffix =
    strip_suffix_is Decides-eqb key c.as_bytes.result.now (Some c.in-Some.front) c.in-Some.ensures.cases
    ∙ ap (λ text. front ++ text) (c.as_bytes.ensures.value ∙ c.as_str.ensures.value)
    in
    read_as (λ chunk. IsDefaultKey separator chunk front) (λ chunk. IsSuffixedKey separator suffix chunk key) c.args.dimensionality c.read.result
    (λ chunk long is. suffixed is ends) (λ chunk long is. before_suffix separator suffix chunk key front ends is) c.read.ensures

pub returns-in-None : goal.returns-in-None
unfolding IsKey
returns-in-None c = λ chunk fit lengths is.
    let (front, ends) = ends_in_suffix c.args.self.now.keys.separator c.args.self.now.suffix chunk c.args.key.now is in
    strip_suffix_is Decides-eqb c.args.key.now c.as_bytes.result.now None c.in-None.ensures.cases front
    (ends ∙ ap (λ text. front ++ text) (sym (c.as_bytes.ensures.value ∙ c.as_str.ensures.value)))
