-- A chunk key encoding as numbers that a caller keeps. The layout is this library's own.
use Rattle.std.specs.Prelude.{◌≡◌, ℕ, ◌<◌, List, ◌∷◌, IsUtf8, length, slice_index_or}
use Rattle.zarrs_chunk_base.specs.ChunkKeySeparator.{separator_byte}
use Rattle.zarrs_chunk_base.specs.StoreKey.{EndsInSlash}
use Rattle.zarrs_chunk_keys.specs.ChunkKey.{Encoding, default_keys, separator_of, suffix_of, suffixed_keys, v2_keys}

-- the number by which those of an encoding are told from others: "zarrkeys" in ASCII
abbrev pub encoding_mark : ℕ
encoding_mark = 8818455381121792371

-- which keys they are
abbrev pub kind_number : Encoding → ℕ
kind_number (default_keys _) = 0
kind_number (v2_keys _) = 1
kind_number (suffixed_keys _ _) = 2

-- the mark, the kind, the separator's byte, and the suffix byte by byte
abbrev pub encoding_numbers : Encoding → List ℕ
encoding_numbers encoding =
    encoding_mark ∷ kind_number encoding ∷ separator_byte (separator_of encoding) ∷ suffix_of encoding

-- each number is a byte
abbrev pub AreBytes : List ℕ → Type 0
AreBytes numbers = (k : ℕ) → k < length numbers → slice_index_or numbers k 0 < 256

-- the numbers are those of the encoding, whose suffix is a text that doesn't end in a slash
pub record IsPreparedEncoding (numbers : List ℕ) (encoding : Encoding) : Type 0 where
  pub are : numbers ≡ encoding_numbers encoding
  pub bytes : AreBytes (suffix_of encoding)
  pub utf8 : IsUtf8 (suffix_of encoding)
  pub no_slash : ¬ EndsInSlash (suffix_of encoding)
