use Rattle.std.proofs.Common.{◌≡◌, ◌∙◌, ◌++◌, Some, None, ap, codes, subst, sym}
use Rattle.std.proofs.lemmas.Bool.Decides.{Decides-eqb}
use Rattle.std.proofs.lemmas.Slice.Eq.{strip_prefix_is}
use Rattle.zarrs_chunk_base.specs.ChunkKeySeparator.{separator_byte}
use Rattle.zarrs_chunk_keys.specs.ChunkKey.{IsDefaultKey, IsKey}
use Rattle.zarrs_chunk_keys.specs.Numeral.{IsNumerals}
use Rattle.zarrs_chunk_keys.proofs.Keys.{is_default_key}
use Rattle.zarrs_chunk_keys.proofs.ReadKeys.{behind_c, default_numerals, read_as}
use Rattle.zarrs_chunk_keys.proofs.chunk_key_encoding.default.DefaultChunkKeyEncodingOfKind.read.Goals as goal

pub returns-in-Some : goal.returns-in-Some
unfolding IsKey
returns-in-Some c =
    let separator = c.args.self.now.separator in
    let key = c.args.key.now in
    let numerals = c.in-Some.numerals.now in
    let begins : key ≡ codes "c" ++ numerals =
    strip_prefix_is Decides-eqb key c.as_slice.result.now (Some c.in-Some.numerals) c.in-Some.ensures.cases
    ∙ ap (λ text. text ++ numerals) c.as_slice.ensures
    in
    read_as (λ chunk. IsNumerals (separator_byte separator) chunk numerals) (λ chunk. IsDefaultKey separator chunk key) c.args.dimensionality
    c.read_numerals.result (λ chunk long are. subst (IsDefaultKey separator chunk) (sym begins) (is_default_key separator chunk numerals are))
    (λ chunk long is. behind_c separator chunk key numerals begins is) c.read_numerals.ensures

pub returns-in-None : goal.returns-in-None
unfolding IsKey
returns-in-None c = λ chunk fit lengths is.
    let (numerals, are, begins) = default_numerals c.args.self.now.separator chunk c.args.key.now is in
    strip_prefix_is Decides-eqb c.args.key.now c.as_slice.result.now None c.in-None.ensures.cases numerals
    (begins ∙ ap (λ text. text ++ numerals) (sym c.as_slice.ensures))
