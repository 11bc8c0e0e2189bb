-- Each list of numbers has a key, under each encoding, since each number has a numeral.
use Rattle.std.proofs.Common.{◌≢◌, ℕ, ◌<◌, ◌≤◌, ◌^◌, List, [], ◌∷◌, ◌++◌, append-nil, append_assoc, ap, arith, codes, decimal, length, refl, subst, sym}
use Rattle.std.proofs.lemmas.Fmt.{decimal_by_steps}
use Rattle.zarrs_chunk_base.specs.declared.chunk_key_separator.ChunkKeySeparator.{ChunkKeySeparator}
use Rattle.zarrs_chunk_base.specs.ChunkKeySeparator.{separator_byte}
use Rattle.zarrs_chunk_base.specs.Greatest.{AllFit, greatest}
use Rattle.zarrs_chunk_keys.specs.ChunkKey.{Encoding, IsDefaultKey, IsKey, IsV2Key, c_alone, default_keys, number_more, one_more, one_number}
use Rattle.zarrs_chunk_keys.specs.ChunkKey.{suffixed, suffixed_keys, v2_keys, zero_alone}
use Rattle.zarrs_chunk_keys.specs.Numeral.{IsNumeral, more_digits, one_digit}

-- the decimal text of a number is its numeral
pub IsNumeral-decimal : (n : ℕ) → n < 2 ^ 64 → IsNumeral n (decimal n)
IsNumeral-decimal =
    decimal_by_steps IsNumeral (λ n below. one_digit below refl) (λ n ds high front. more_digits front (omega arith) (omega arith) (omega arith) refl)

-- where lists that have a key have one with a number more behind them, so they do with more numbers
have_more : (K : List ℕ → List ℕ → Type 0)
    → ((numbers key : List ℕ) (n : ℕ) → n ≤ greatest → K numbers key → (longer : List ℕ) × K (numbers ++ n ∷ []) longer)
    → (numbers key more : List ℕ) → AllFit more → K numbers key → (longer : List ℕ) × K (numbers ++ more) longer
have_more K one numbers key [] fit is = (key, subst (λ xs. K xs key) (sym (append-nil numbers)) is)
have_more K one numbers key (n ∷ more) fit is =
    let (longer, also) = one numbers key n fit.0 is in
    let (last, all) = have_more K one (numbers ++ n ∷ []) longer more fit.1 also in
    (last, subst (λ xs. K xs last) (append_assoc numbers (n ∷ []) more) all)

have_default : (separator : ChunkKeySeparator) (chunk : List ℕ) → AllFit chunk → (key : List ℕ) × IsDefaultKey separator chunk key
have_default separator chunk fit =
    have_more (IsDefaultKey separator)
    (λ numbers key n fits is. (key ++ separator_byte separator ∷ decimal n, one_more is (IsNumeral-decimal n (omega arith)) refl refl))
    [] (codes "c") chunk fit (c_alone refl refl)

pub pushed_some : (numbers : List ℕ) (n : ℕ) → numbers ++ n ∷ [] ≢ []
pushed_some [] n same = let lengths = ap length same in absurd (omega arith)
pushed_some (x ∷ numbers) n same = let lengths = ap length same in absurd (omega arith)

pub has_key : (encoding : Encoding) (chunk : List ℕ) → AllFit chunk → (key : List ℕ) × IsKey encoding chunk key
unfolding IsKey
has_key (default_keys separator) chunk fit = have_default separator chunk fit
has_key (v2_keys separator) [] fit = (codes "0", zero_alone refl refl)
has_key (v2_keys separator) (n ∷ chunk) fit =
    let fits : n ≤ greatest = fit.0 in
    let (key, (is, _)) = have_more (λ numbers key. IsV2Key separator numbers key × (numbers ≢ []))
    (λ numbers key m fits is.
    (key ++ separator_byte separator ∷ decimal m, (number_more is.0 is.1 (IsNumeral-decimal m (omega arith)) refl refl, pushed_some numbers m)))
    (n ∷ []) (decimal n) chunk fit.1 (one_number (IsNumeral-decimal n (omega arith)) refl, pushed_some [] n)
    in
    (key, is)
has_key (suffixed_keys separator suffix) chunk fit =
    let (key, is) = have_default separator chunk fit in
    (key ++ suffix, suffixed is refl)
