-- One key is that of one list of numbers; of v2 keys this is so of lists of one length.
use Rattle.std.specs.Prelude.{◌≡◌, ℕ, suc, ◌<◌, List, [], ◌∷◌, ◌++◌, length}
use Rattle.std.proofs.Common.{ap, ap₂, sym, ◌∙◌, refl, subst, arith}
use Rattle.zarrs_chunk_base.specs.declared.chunk_key_separator.ChunkKeySeparator.{ChunkKeySeparator}
use Rattle.zarrs_chunk_base.specs.declared.chunk_key_separator.ChunkKeySeparator.TheVariants.{Slash, Dot}
use Rattle.zarrs_chunk_base.specs.ChunkKeySeparator.{separator_byte}
use Rattle.zarrs_chunk_keys.specs.ChunkKey.{Encoding, IsDefaultKey, IsKey, IsSuffixedKey, IsV2Key, c_alone, default_keys, number_more, one_more}
use Rattle.zarrs_chunk_keys.specs.ChunkKey.{one_number, suffixed, suffixed_keys, v2_keys, zero_alone}
use Rattle.zarrs_chunk_keys.specs.Numeral.{IsNumeral}
use Rattle.zarrs_chunk_keys.specs.lemmas.Numerals.{numeral_is_high, same_number}
use Rattle.zarrs_chunk_keys.specs.lemmas.Parts.{not_alone, same_front, same_parts}

-- a separator is no digit
pub low : (separator : ChunkKeySeparator) → separator_byte separator < 48
low Slash = omega arith
low Dot = omega arith

-- the parts of two equal keys
record AreParts (front other_front : List ℕ) (n m : ℕ) : Type 0 where
  same_front : front ≡ other_front
  same_number : n ≡ m

parts : (separator : ChunkKeySeparator) (front other_front numeral other_numeral key : List ℕ) (n m : ℕ) → IsNumeral n numeral
    → IsNumeral m other_numeral → key ≡ front ++ separator_byte separator ∷ numeral → key ≡ other_front ++ separator_byte separator ∷ other_numeral
    → AreParts front other_front n m
parts separator front other_front numeral other_numeral key n m is other first second =
    let both = same_parts (separator_byte separator) front other_front numeral other_numeral (low separator) (numeral_is_high n numeral is)
    (numeral_is_high m other_numeral other) (sym first ∙ second)
    in
    record { same_front = both.0; same_number = same_number n m other_numeral (subst (IsNumeral n) both.1 is) other }

-- lists with one number more
pushed : {others other_others chunk other : List ℕ} {n m : ℕ} → others ≡ other_others → n ≡ m → chunk ≡ others ++ n ∷ []
    → other ≡ other_others ++ m ∷ [] → chunk ≡ other
pushed rest last first second = first ∙ ap₂ (λ xs k. xs ++ k ∷ []) rest last ∙ sym second

pub default_exact : (separator : ChunkKeySeparator) (chunk other key : List ℕ) → IsDefaultKey separator chunk key
    → IsDefaultKey separator other key → chunk ≡ other
default_exact separator chunk other key (c_alone none is) (c_alone nothing also) = none ∙ sym nothing
default_exact separator chunk other key (c_alone none is) (one_more {front = front} {numeral = numeral} rest last more also) =
    let few = low separator in
    absurd (not_alone (separator_byte separator) 99 front numeral (omega arith) (sym also ∙ is))
default_exact separator chunk other key (one_more {front = front} {numeral = numeral} rest last more is) (c_alone none also) =
    let few = low separator in
    absurd (not_alone (separator_byte separator) 99 front numeral (omega arith) (sym is ∙ also))
default_exact separator chunk other key (one_more {others = xs} {front = front} {numeral = s} {n = n} rest last more is)
    (one_more {others = ys} {front = other_front} {numeral = t} {n = m} other_rest other_last other_more also) =
    let same = parts separator front other_front s t key n m last other_last is also in
    pushed (default_exact separator xs ys front rest (subst (IsDefaultKey separator ys) (sym same.same_front) other_rest))
    same.same_number more other_more

length_pushed : (xs : List ℕ) (n : ℕ) → length (xs ++ n ∷ []) ≡ suc (length xs)
length_pushed [] n = refl
length_pushed (x ∷ xs) n = ap suc (length_pushed xs n)

none : (xs : List ℕ) → length xs ≡ 0 → xs ≡ []
none [] same = refl
none (x ∷ xs) same = absurd (omega arith)

pub v2_exact : (separator : ChunkKeySeparator) (chunk other key : List ℕ) → length chunk ≡ length other → IsV2Key separator chunk key
    → IsV2Key separator other key → chunk ≡ other
v2_exact separator chunk other key same (zero_alone empty is) (zero_alone nothing also) = empty ∙ sym nothing
v2_exact separator chunk other key same (zero_alone empty is) (one_number last one) =
    let first = ap length empty in let second = ap length one in absurd (omega arith)
v2_exact separator chunk other key same (zero_alone empty is) (number_more {others = ys} {n = m} rest some last more also) =
    let first = ap length empty in let second = ap length more ∙ length_pushed ys m in absurd (omega arith)
v2_exact separator chunk other key same (one_number last one) (zero_alone nothing also) =
    let first = ap length one in let second = ap length nothing in absurd (omega arith)
v2_exact separator chunk other key same (one_number {n = n} last one) (one_number {n = m} other_last also) =
    one ∙ ap (λ k. k ∷ []) (same_number n m key last other_last) ∙ sym also
v2_exact separator chunk other key same (one_number last one) (number_more {others = ys} {n = m} rest some other_last more also) =
    let first = ap length one in let second = ap length more ∙ length_pushed ys m in absurd (some (none ys (omega arith)))
v2_exact separator chunk other key same (number_more {others = xs} {n = n} rest some last more is) (zero_alone nothing also) =
    let first = ap length more ∙ length_pushed xs n in let second = ap length nothing in absurd (omega arith)
v2_exact separator chunk other key same (number_more {others = xs} {n = n} rest some last more is) (one_number other_last also) =
    let first = ap length more ∙ length_pushed xs n in let second = ap length also in absurd (some (none xs (omega arith)))
v2_exact separator chunk other key same (number_more {others = xs} {front = front} {numeral = s} {n = n} rest some last more is)
    (number_more {others = ys} {front = other_front} {numeral = t} {n = m} other_rest other_some other_last other_more also) =
    let first = ap length more ∙ length_pushed xs n in
    let second = ap length other_more ∙ length_pushed ys m in
    let parts = parts separator front other_front s t key n m last other_last is also in
    pushed (v2_exact separator xs ys front (omega arith) rest (subst (IsV2Key separator ys) (sym parts.same_front) other_rest))
    parts.same_number more other_more

pub suffixed_exact : (separator : ChunkKeySeparator) (suffix chunk other key : List ℕ) → IsSuffixedKey separator suffix chunk key
    → IsSuffixedKey separator suffix other key → chunk ≡ other
suffixed_exact separator suffix chunk other key (suffixed {front = front} is ends) (suffixed {front = other_front} also other_ends) =
    let same = same_front front other_front suffix (sym ends ∙ other_ends) in
    default_exact separator chunk other front is (subst (IsDefaultKey separator other) (sym same) also)

pub exact : (encoding : Encoding) (chunk other key : List ℕ) → length chunk ≡ length other → IsKey encoding chunk key
    → IsKey encoding other key → chunk ≡ other
unfolding IsKey
exact (default_keys separator) chunk other key same is also = default_exact separator chunk other key is also
exact (v2_keys separator) chunk other key same is also = v2_exact separator chunk other key same is also
exact (suffixed_keys separator suffix) chunk other key same is also = suffixed_exact separator suffix chunk other key is also
