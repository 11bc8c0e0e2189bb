-- Keys end in `c` or in a digit, and not in a slash; nor do two texts that are put together, of which neither does.
use Rattle.std.proofs.Common.{◌≡◌, ◌∙◌, ℕ, ◌<◌, List, [], ◌∷◌, ◌++◌, refl, ap, append-nil, sym, subst, arith}
use Rattle.zarrs_chunk_base.specs.ChunkKeySeparator.{separator_byte}
use Rattle.zarrs_chunk_base.specs.StoreKey.{EndsInSlash}
use Rattle.zarrs_chunk_base.specs.declared.chunk_key_separator.ChunkKeySeparator.{ChunkKeySeparator}
use Rattle.zarrs_chunk_keys.specs.ChunkKey.{IsDefaultKey, IsV2Key, c_alone, number_more, one_more, one_number, zero_alone}
use Rattle.zarrs_chunk_keys.specs.Numeral.{digit, IsNumeral, one_digit, more_digits}

-- the last byte, or another one where there is none
abbrev last_of : ℕ → List ℕ → ℕ
last_of b [] = b
last_of b (c ∷ text) = last_of c text

last_behind : (b : ℕ) (text : List ℕ) (c : ℕ) (more : List ℕ) → last_of b (text ++ c ∷ more) ≡ last_of c more
last_behind b [] c more = refl
last_behind b (d ∷ text) c more = last_behind d text c more

-- the last byte of a text that isn't empty is past the slash
numeral_past : (n : ℕ) (text : List ℕ) (b : ℕ) → IsNumeral n text → 47 < last_of b text
numeral_past n text b (one_digit small is) = rw is (omega arith)
numeral_past n text b (more_digits {d = d} {front = front} before positive small value is) = rw (is, last_behind b front (digit d) []) (omega arith)

default_past : (separator : ChunkKeySeparator) (chunk key : List ℕ) (b : ℕ) → IsDefaultKey separator chunk key → 47 < last_of b key
default_past separator chunk key b (c_alone none is) = rw is (omega arith)
default_past separator chunk key b (one_more {front = front} {numeral = numeral} {n = n} rest last more is) =
    rw (is, last_behind b front (separator_byte separator) numeral) (numeral_past n numeral (separator_byte separator) last)

v2_past : (separator : ChunkKeySeparator) (chunk key : List ℕ) (b : ℕ) → IsV2Key separator chunk key → 47 < last_of b key
v2_past separator chunk key b (zero_alone none is) = rw is (omega arith)
v2_past separator chunk key b (one_number {n = n} last one) = numeral_past n key b last
v2_past separator chunk key b (number_more {front = front} {numeral = numeral} {n = n} rest some last more is) =
    rw (is, last_behind b front (separator_byte separator) numeral) (numeral_past n numeral (separator_byte separator) last)

no_slash : (key : List ℕ) → 47 < last_of 99 key → ¬ EndsInSlash key
no_slash key past (front, slash) =
    let ends : last_of 99 key ≡ 47 = ap (last_of 99) slash ∙ last_behind 99 front 47 [] in
    absurd (omega arith)

-- a text whose last byte is a slash ends in one
ends_in_last : (c : ℕ) (more : List ℕ) → last_of c more ≡ 47 → EndsInSlash (c ∷ more)
ends_in_last c [] is = ([], ap (λ b. b ∷ []) is)
ends_in_last c (d ∷ more) is = let (front, same) = ends_in_last d more is in (c ∷ front, ap (λ text. c ∷ text) same)

pub together_no_slash : (front behind : List ℕ) → ¬ EndsInSlash front → ¬ EndsInSlash behind → ¬ EndsInSlash (front ++ behind)
together_no_slash front [] first last ends = first (subst EndsInSlash (append-nil front) ends)
together_no_slash front (c ∷ more) first last (begins, slash) =
    last (ends_in_last c more (sym (last_behind 99 front c more) ∙ ap (last_of 99) slash ∙ last_behind 99 begins 47 []))

pub default_has_no_slash : (separator : ChunkKeySeparator) (chunk key : List ℕ) → IsDefaultKey separator chunk key → ¬ EndsInSlash key
default_has_no_slash separator chunk key is = no_slash key (default_past separator chunk key 99 is)

pub v2_has_no_slash : (separator : ChunkKeySeparator) (chunk key : List ℕ) → IsV2Key separator chunk key → ¬ EndsInSlash key
v2_has_no_slash separator chunk key is = no_slash key (v2_past separator chunk key 99 is)
