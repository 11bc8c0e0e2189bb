-- What the program writes: a line for each index list, and then one for each key.
use Rattle.std.specs.Prelude.{◌≡◌, ℕ, List, [], ◌∷◌, ◌++◌, codes, length}
use Rattle.zarrs_chunk_base.specs.Dimension.{Dimension, InBox, IsPlace}
use Rattle.zarrs_chunk_base.specs.Greatest.{AllFit}
use Rattle.zarrs_chunk_base.specs.StoreKey.{EndsInSlash}
use Rattle.zarrs_chunk_keys.specs.Numeral.{AreJoined, IsNumerals}

-- The line of an index: the key of its chunk and its place there, each number after a space, or `-` where no chunk holds it.
pub data IsLine (dimensions : List Dimension) (IsKey : List ℕ → List ℕ → Type 0) (index line : List ℕ) : Type 0 where
  found : (chunk place key numbers : List ℕ) → InBox dimensions chunk index → IsPlace dimensions chunk index place → IsKey chunk key
      → IsNumerals 32 place numbers → line ≡ key ++ numbers ++ codes "\n" → IsLine dimensions IsKey index line
  absent : ((chunk : List ℕ) → ¬ InBox dimensions chunk index) → line ≡ codes "-\n" → IsLine dimensions IsKey index line

-- the text is a store key, and the key of a chunk with this many numbers
pub record IsKeyOf (IsKey : List ℕ → List ℕ → Type 0) (dimensionality : ℕ) (key chunk : List ℕ) : Type 0 where
  pub long : length chunk ≡ dimensionality
  pub fit : AllFit chunk
  pub no_slash : ¬ EndsInSlash key
  pub is_key : IsKey chunk key

-- The line of a key: the numbers of its chunk with a space between them, or `-` if there is no such chunk. The chunk may lie outside of the grid.
pub data IsKeyLine (dimensionality : ℕ) (IsKey : List ℕ → List ℕ → Type 0) (key line : List ℕ) : Type 0 where
  read : (chunk numbers : List ℕ) → IsKeyOf IsKey dimensionality key chunk → AreJoined 32 chunk numbers → line ≡ numbers ++ codes "\n"
      → IsKeyLine dimensionality IsKey key line
  unread : ((chunk : List ℕ) → ¬ IsKeyOf IsKey dimensionality key chunk) → line ≡ codes "-\n" → IsKeyLine dimensionality IsKey key line

-- a line for each list, in order
abbrev pub AreLines : (List ℕ → List ℕ → Type 0) → List (List ℕ) → List ℕ → Type 0
AreLines IsOne [] text = text ≡ []
AreLines IsOne (x ∷ xs) text = (line : List ℕ) × (rest : List ℕ) × IsOne x line × AreLines IsOne xs rest × (text ≡ line ++ rest)

-- the lines of the indices, and behind them those of the keys
pub record IsOutput (dimensions : List Dimension) (IsKey : List ℕ → List ℕ → Type 0) (indices keys : List (List ℕ)) (text : List ℕ) : Type 0 where
  pub index_lines : List ℕ
  pub key_lines : List ℕ
  pub indices_are : AreLines (IsLine dimensions IsKey) indices index_lines
  pub keys_are : AreLines (IsKeyLine (length dimensions) IsKey) keys key_lines
  pub both : text ≡ index_lines ++ key_lines
