-- What the numbers of an encoding tell.
use Rattle.std.proofs.Common.{◌≡◌, ◌∙◌, ◌++◌, ℕ, IsUtf8, List, [], ◌∷◌, ap, ap₂, drop, get_or, length, refl, slice_index_or, sym, take, arith}
use Rattle.std.proofs.lemmas.List.{length-append}
use Rattle.std.proofs.lemmas.Str.{IsUtf8-nil}
use Rattle.std.specs.List.{IsSplitAt}
use Rattle.zarrs_chunk_base.specs.StoreKey.{EndsInSlash}
use Rattle.zarrs_chunk_prepared.proofs.Rows.{parts}
use Rattle.zarrs_chunk_base.specs.ChunkKeySeparator.{separator_byte}
use Rattle.zarrs_chunk_base.specs.declared.chunk_key_separator.ChunkKeySeparator.{ChunkKeySeparator}
use Rattle.zarrs_chunk_base.specs.declared.chunk_key_separator.ChunkKeySeparator.TheVariants.{Slash, Dot}
use Rattle.zarrs_chunk_keys.specs.ChunkKey.{Encoding, default_keys, separator_of, suffix_of, suffixed_keys, v2_keys}
use Rattle.zarrs_chunk_prepared.specs.PreparedEncoding.{AreBytes, IsPreparedEncoding, encoding_mark, encoding_numbers, kind_number}

-- a separator is told by its byte
pub separator_told : (one other : ChunkKeySeparator) → separator_byte one ≡ separator_byte other → one ≡ other
separator_told Slash Slash same = refl
separator_told Dot Dot same = refl
separator_told Slash Dot same = absurd (omega arith)
separator_told Dot Slash same = absurd (omega arith)

-- an encoding whose numbers tell keys with a suffix
pub suffixed_told : (encoding : Encoding) (separator : ChunkKeySeparator) (numbers head suffix : List ℕ) → numbers ≡ encoding_numbers encoding
    → head ≡ take 3 numbers → suffix ≡ drop 3 numbers → slice_index_or head 1 0 ≡ 2 → separator_byte separator ≡ slice_index_or head 2 0
    → (suffix ≡ suffix_of encoding) × (suffixed_keys separator suffix ≡ encoding)
suffixed_told (default_keys own) separator numbers head suffix are is_head is_suffix kind byte =
    let zero : slice_index_or head 1 0 ≡ 0 = rw (is_head, are) refl in
    absurd (omega arith)
suffixed_told (v2_keys own) separator numbers head suffix are is_head is_suffix kind byte =
    let one : slice_index_or head 1 0 ≡ 1 = rw (is_head, are) refl in
    absurd (omega arith)
suffixed_told (suffixed_keys own end) separator numbers head suffix are is_head is_suffix kind byte =
    let same : suffix ≡ end = rw (is_suffix, are) refl in
    let own_byte : slice_index_or head 2 0 ≡ separator_byte own = rw (is_head, are) refl in
    (same, ap₂ suffixed_keys (separator_told separator own (rw own_byte at byte)) same)

-- numbers, by their parts
three : (head : List ℕ) → length head ≡ 3 → head ≡ get_or head 0 0 ∷ get_or head 1 0 ∷ get_or head 2 0 ∷ []
three (a ∷ b ∷ c ∷ []) long = refl
three _ long = absurd (omega arith)

-- where there is no number
no_more : (numbers : List ℕ) → length numbers ≡ 0 → numbers ≡ []
no_more [] none = refl
no_more (_ ∷ _) none = absurd (omega arith)

no_slash_in_none : ¬ EndsInSlash []
no_slash_in_none (front, is) = let long : 0 ≡ length (front ++ 47 ∷ []) = ap length is in omega (arith, length-append front (47 ∷ []))

module _ (numbers head suffix : List ℕ) (split : IsSplitAt numbers 3 head suffix) (mark : get_or head 0 0 ≡ encoding_mark)
    (separator : ChunkKeySeparator) (byte : separator_byte separator ≡ get_or head 2 0) where
  numbers_are : (kind : ℕ) → get_or head 1 0 ≡ kind → numbers ≡ encoding_mark ∷ kind ∷ separator_byte separator ∷ suffix
  numbers_are kind is_kind =
      parts numbers head suffix 3 split ∙ ap (λ h. h ++ suffix) (three head split.3)
      ∙ ap (λ n. n ∷ get_or head 1 0 ∷ get_or head 2 0 ∷ suffix) mark
      ∙ ap₂ (λ kind byte. encoding_mark ∷ kind ∷ byte ∷ suffix) is_kind (sym byte)

  -- those of an encoding without a suffix, and with one
  pub without_suffix : (encoding : Encoding) → suffix_of encoding ≡ [] → separator_of encoding ≡ separator → get_or head 1 0 ≡ kind_number encoding
      → length suffix ≡ 0 → IsPreparedEncoding numbers encoding
  without_suffix encoding none same is_kind no_suffix = record {
    are =
        numbers_are (kind_number encoding) is_kind
        ∙ ap₂ (λ s rest. encoding_mark ∷ kind_number encoding ∷ separator_byte s ∷ rest) (sym same) (no_more suffix no_suffix ∙ sym none);
    bytes = rw none (λ k within. absurd (omega arith));
    utf8 = rw none IsUtf8-nil;
    no_slash = rw none no_slash_in_none;
  }

  pub with_suffix : get_or head 1 0 ≡ 2 → AreBytes suffix → IsUtf8 suffix → (¬ EndsInSlash suffix)
      → IsPreparedEncoding numbers (suffixed_keys separator suffix)
  with_suffix is_kind bytes utf8 no_slash = record { are = numbers_are 2 is_kind; bytes = bytes; utf8 = utf8; no_slash = no_slash }
