-- Keys that are put together of numerals.
use Rattle.std.proofs.Common.{◌≢◌, ℕ, List, [], ◌∷◌, ◌++◌, codes, refl}
use Rattle.zarrs_chunk_base.specs.declared.chunk_key_separator.ChunkKeySeparator.{ChunkKeySeparator}
use Rattle.zarrs_chunk_base.specs.ChunkKeySeparator.{separator_byte}
use Rattle.zarrs_chunk_keys.specs.ChunkKey.{IsDefaultKey, IsV2Key, c_alone, number_more, one_more, one_number}
use Rattle.zarrs_chunk_keys.specs.Numeral.{IsNumeral, IsNumerals}
use Rattle.zarrs_chunk_keys.specs.lemmas.HaveKeys.{pushed_some}
use Rattle.zarrs_chunk_keys.proofs.NumeralLemmas.{appended}

pub is_default_key : (separator : ChunkKeySeparator) (chunk numerals : List ℕ) → IsNumerals (separator_byte separator) chunk numerals
    → IsDefaultKey separator chunk (codes "c" ++ numerals)
is_default_key separator chunk numerals are =
    appended (separator_byte separator) (IsDefaultKey separator) (λ numbers key numeral n is one. one_more is one refl refl) []
    (codes "c") chunk numerals (c_alone refl refl) are

pub is_v2_key : (separator : ChunkKeySeparator) (n : ℕ) (others numeral numerals : List ℕ) → IsNumeral n numeral
    → IsNumerals (separator_byte separator) others numerals → IsV2Key separator (n ∷ others) (numeral ++ numerals)
is_v2_key separator n others numeral numerals is are =
    let said = appended (separator_byte separator) (λ numbers key. IsV2Key separator numbers key × (numbers ≢ []))
    (λ numbers key numeral m is one. (number_more is.0 is.1 one refl refl, pushed_some numbers m)) (n ∷ []) numeral others numerals
    (one_number is refl, pushed_some [] n) are
    in
    said.0
