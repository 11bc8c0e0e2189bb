-- Keys are taken apart into numerals again.
use Rattle.std.proofs.Common.{◌≡◌, ◌≢◌, ◌∙◌, ℕ, ◌<◌, List, [], ◌∷◌, ◌++◌, Option, Some, None, Result, Ok, Err, IfOk, Vec, codes, ap, append-nil}
use Rattle.std.proofs.Common.{length, option_map, refl, subst, sym, arith}
use Rattle.std.specs.declared.alloc.Global.{Global}
use Rattle.zarrs_chunk_base.specs.declared.chunk_key_separator.ChunkKeySeparator.{ChunkKeySeparator}
use Rattle.zarrs_chunk_base.specs.ChunkKeySeparator.{separator_byte}
use Rattle.zarrs_chunk_base.specs.Greatest.{AllFit}
use Rattle.zarrs_chunk_keys.specs.ChunkKey.{IsDefaultKey, IsV2Key, c_alone, number_more, one_more, one_number, zero_alone}
use Rattle.zarrs_chunk_keys.specs.Decoded.{IsDecoded}
use Rattle.zarrs_chunk_keys.specs.Numeral.{AreJoined, IsNumerals}
use Rattle.zarrs_chunk_keys.proofs.Keys.{is_v2_key}
use Rattle.zarrs_chunk_keys.proofs.NumeralLemmas.{IsNumerals-push}

-- what is read of one relation is read of another that holds of the same lists
pub read_as : {E : Type 0} (P Q : List ℕ → Type 0) (count : ℕ) (answer : Result (Option (Vec ℕ Global)) E)
    → ((chunk : List ℕ) → length chunk ≡ count → P chunk → Q chunk) → ((chunk : List ℕ) → length chunk ≡ count → Q chunk → P chunk)
    → IfOk answer (IsDecoded P count) → IfOk answer (IsDecoded Q count)
read_as P Q count (Ok (Some chunk)) to from (long, fit, is) = (long, fit, to chunk.items long is)
read_as P Q count (Ok None) to from none = λ chunk fit long is. none chunk fit long (from chunk long is)
read_as P Q count (Err _) to from is = tt

-- numerals with the byte before each begin with the byte
pub begins_with : (b : ℕ) (numbers text : List ℕ) (first : ℕ) (rest : List ℕ) → text ≡ first ∷ rest → IsNumerals b numbers text → first ≡ b
begins_with b [] text first rest same none = let lengths = ap length (sym none ∙ same) in absurd (omega arith)
begins_with b (n ∷ numbers) text first rest same (numeral, others, is, are, begins) =
    let both : first ∷ rest ≡ b ∷ (numeral ++ others) = sym same ∙ begins in cc

-- no text is the numerals of no numbers alone
pub no_text : (b : ℕ) (numbers : List ℕ) → IsNumerals b numbers [] → length numbers ≡ 0
no_text b [] none = refl
no_text b (n ∷ numbers) (numeral, others, is, are, begins) = let lengths = ap length begins in absurd (omega arith)

pub empty : (text : List ℕ) → length text ≡ 0 → text ≡ []
empty [] none = refl
empty (c ∷ text) none = absurd (omega arith)

-- a default key is `c` and numerals
pub default_numerals : (separator : ChunkKeySeparator) (chunk key : List ℕ) → IsDefaultKey separator chunk key
    → (numerals : List ℕ) × IsNumerals (separator_byte separator) chunk numerals × (key ≡ codes "c" ++ numerals)
default_numerals separator chunk key (c_alone none is) = ([], rw none refl, is)
default_numerals separator chunk key (one_more {others = others} {front = front} {numeral = numeral} {n = n} rest last more is) =
    let b = separator_byte separator in
    let (numerals, are, begins) = default_numerals separator others front rest in (
      numerals ++ b ∷ numeral,
      subst (λ numbers. IsNumerals b numbers (numerals ++ b ∷ numeral)) (sym more) (IsNumerals-push b others numerals n numeral are last),
      is ∙ ap (λ text. text ++ b ∷ numeral) begins,
    )

positive : (numbers : List ℕ) → numbers ≢ [] → 0 < length numbers
positive [] some = absurd (some refl)
positive (n ∷ numbers) some = omega arith

-- a v2 key of some numbers, with the separator before it, is numerals
pub v2_numerals : (separator : ChunkKeySeparator) (chunk key : List ℕ) → IsV2Key separator chunk key → 0 < length chunk
    → IsNumerals (separator_byte separator) chunk (separator_byte separator ∷ key)
v2_numerals separator chunk key (zero_alone none is) some = let lengths = ap length none in absurd (omega arith)
v2_numerals separator chunk key (one_number {n = n} last one) some =
    let b = separator_byte separator in
    subst (λ numbers. IsNumerals b numbers (b ∷ key)) (sym one) (key, [], last, refl, ap (λ text. b ∷ text) (sym (append-nil key)))
v2_numerals separator chunk key (number_more {others = others} {front = front} {numeral = numeral} {n = n} rest others_are last more is) some =
    let b = separator_byte separator in
    let before = v2_numerals separator others front rest (positive others others_are) in
    subst (λ numbers. IsNumerals b numbers (b ∷ key)) (sym more)
    (subst (λ text. IsNumerals b (others ++ n ∷ []) (b ∷ text)) (sym is) (IsNumerals-push b others (b ∷ front) n numeral before last))

-- numerals of some numbers are, behind the first separator, a v2 key
pub v2_of_numerals : (separator : ChunkKeySeparator) (chunk key : List ℕ) → 0 < length chunk
    → IsNumerals (separator_byte separator) chunk (separator_byte separator ∷ key) → IsV2Key separator chunk key
v2_of_numerals separator [] key some are = absurd (omega arith)
v2_of_numerals separator (n ∷ others) key some (numeral, rest, is, are, begins) =
    let same : numeral ++ rest ≡ key = cc in
    subst (IsV2Key separator (n ∷ others)) same (is_v2_key separator n others numeral rest is are)

-- what stands behind the `c` of a default key is its numerals
pub behind_c : (separator : ChunkKeySeparator) (chunk key numerals : List ℕ) → key ≡ codes "c" ++ numerals → IsDefaultKey separator chunk key
    → IsNumerals (separator_byte separator) chunk numerals
behind_c separator chunk key numerals begins is =
    let (others, are, also) = default_numerals separator chunk key is in
    let both : 99 ∷ others ≡ 99 ∷ numerals = sym also ∙ begins in
    let same : others ≡ numerals = cc in
    subst (IsNumerals (separator_byte separator) chunk) same are

-- the chunk that was read has the key
pub has_key : (HasKey : List ℕ → Type 0) (dimensionality : ℕ) (read : Option (Vec ℕ Global)) (chunk : List ℕ) → IsDecoded HasKey dimensionality read
    → option_map (λ v. v.items) read ≡ Some chunk → HasKey chunk
has_key HasKey dimensionality (Some found) chunk is same = let items : found.items ≡ chunk = cc in subst HasKey items is.2
has_key HasKey dimensionality None chunk is same = cc

-- where one list at most has the key, it is read
pub read_back : (HasKey : List ℕ → Type 0) (chunk : List ℕ) (read : Option (Vec ℕ Global))
    → ((other : List ℕ) → AllFit other → AllFit chunk → length other ≡ length chunk → HasKey other → HasKey chunk → other ≡ chunk)
    → AllFit chunk → HasKey chunk → IsDecoded HasKey (length chunk) read → option_map (λ v. v.items) read ≡ Some chunk
read_back HasKey chunk (Some found) one fit has (long, also_fit, also) = ap Some (one found.items also_fit fit long also has)
read_back HasKey chunk None one fit has none = absurd (none chunk fit refl has)

-- numerals of some numbers with the separator between them are a v2 key
pub v2_of_joined : (separator : ChunkKeySeparator) (chunk key : List ℕ) → 0 < length chunk → AreJoined (separator_byte separator) chunk key
    → IsV2Key separator chunk key
v2_of_joined separator [] key some are = absurd (omega arith)
v2_of_joined separator (n ∷ others) key some are = v2_of_numerals separator (n ∷ others) key some are
