-- The keys under which chunks are stored, by the rules of each encoding, over the bytes of a text.
-- Sources: Zarr V3 core, chunk key encodings; the extension `zarrs.default_suffix`.
use Rattle.std.specs.Prelude.{◌≡◌, ◌≢◌, ℕ, List, [], ◌∷◌, ◌++◌, codes}
use Rattle.zarrs_chunk_base.specs.declared.chunk_key_separator.ChunkKeySeparator.{ChunkKeySeparator}
use Rattle.zarrs_chunk_base.specs.ChunkKeySeparator.{separator_byte}
use Rattle.zarrs_chunk_keys.specs.Numeral.{IsNumeral}

-- default keys: `c` is the key of no numbers; a key, the separator and a numeral are the key of the numbers with one more at their end
pub data IsDefaultKey (separator : ChunkKeySeparator) : List ℕ → List ℕ → Type 0 where
  c_alone : {chunk key : List ℕ} → chunk ≡ [] → key ≡ codes "c" → IsDefaultKey separator chunk key
  one_more : {others front numeral chunk key : List ℕ} {n : ℕ} → IsDefaultKey separator others front → IsNumeral n numeral → chunk ≡ others ++ n ∷ []
      → key ≡ front ++ separator_byte separator ∷ numeral → IsDefaultKey separator chunk key

-- v2 keys: `0` is the key of no numbers, a numeral that of one; a key of some numbers, the separator and a numeral are the key of the numbers with
-- one more at their end
pub data IsV2Key (separator : ChunkKeySeparator) : List ℕ → List ℕ → Type 0 where
  zero_alone : {chunk key : List ℕ} → chunk ≡ [] → key ≡ codes "0" → IsV2Key separator chunk key
  one_number : {chunk key : List ℕ} {n : ℕ} → IsNumeral n key → chunk ≡ n ∷ [] → IsV2Key separator chunk key
  number_more : {others front numeral chunk key : List ℕ} {n : ℕ} → IsV2Key separator others front → others ≢ [] → IsNumeral n numeral
      → chunk ≡ others ++ n ∷ [] → key ≡ front ++ separator_byte separator ∷ numeral → IsV2Key separator chunk key

-- default keys with a suffix: a default key, and then the suffix
pub data IsSuffixedKey (separator : ChunkKeySeparator) (suffix : List ℕ) : List ℕ → List ℕ → Type 0 where
  suffixed : {front chunk key : List ℕ} → IsDefaultKey separator chunk front → key ≡ front ++ suffix → IsSuffixedKey separator suffix chunk key

-- an encoding of chunk numbers as a key
pub data Encoding : Type 0 where
  default_keys : ChunkKeySeparator → Encoding
  v2_keys : ChunkKeySeparator → Encoding
  suffixed_keys : ChunkKeySeparator → List ℕ → Encoding

-- what stands between the numbers of a key
abbrev pub separator_of : Encoding → ChunkKeySeparator
separator_of (default_keys separator) = separator
separator_of (v2_keys separator) = separator
separator_of (suffixed_keys separator _) = separator

-- what ends each key: nothing, but for keys with a suffix
abbrev pub suffix_of : Encoding → List ℕ
suffix_of (default_keys _) = []
suffix_of (v2_keys _) = []
suffix_of (suffixed_keys _ suffix) = suffix

-- the key of a chunk, under an encoding
unfoldable pub IsKey : Encoding → List ℕ → List ℕ → Type 0
IsKey (default_keys separator) = IsDefaultKey separator
IsKey (v2_keys separator) = IsV2Key separator
IsKey (suffixed_keys separator suffix) = IsSuffixedKey separator suffix
