use Rattle.std.proofs.Common.{◌∙◌, ◌∷◌, ap, length, subst, sym, arith}
use Rattle.std.proofs.lemmas.Bool.Decides.{Decides-eqb}
use Rattle.std.proofs.lemmas.Slice.Eq.{slice_eq-Decides}
use Rattle.zarrs_chunk_base.specs.ChunkKeySeparator.{separator_byte}
use Rattle.zarrs_chunk_base.specs.Greatest.{AllFit}
use Rattle.zarrs_chunk_keys.specs.Numeral.{IsNumerals}
use Rattle.zarrs_chunk_keys.specs.ChunkKey.{IsKey, IsV2Key, zero_alone}
use Rattle.zarrs_chunk_keys.proofs.ReadKeys.{read_as, v2_numerals, v2_of_numerals}
use Rattle.zarrs_chunk_keys.proofs.chunk_key_encoding.v2.V2ChunkKeyEncodingOfKind.read.Goals as goal

pub returns-then-dimensionality-gt0 : goal.returns-then-dimensionality-gt0
unfolding IsKey
returns-then-dimensionality-gt0 c =
    let separator = c.args.self.now.separator in
    let b = separator_byte separator in
    let key = c.args.key.now in
    read_as (λ chunk. IsNumerals b chunk (b ∷ key)) (λ chunk. IsV2Key separator chunk key) c.args.dimensionality c.read_numbers.result
    (λ chunk long are. v2_of_numerals separator chunk key (omega arith) are) (λ chunk long is. v2_numerals separator chunk key is (omega arith))
    c.read_numbers.ensures

pub returns-then-eq : goal.returns-then-eq
unfolding IsKey
returns-then-eq c =
    let same = (slice_eq-Decides Decides-eqb _ _ _ c.eq.ensures).0 c.if-eq.true in (
      ap length c.new.ensures.items ∙ omega arith,
      subst AllFit (sym c.new.ensures.items) tt,
      zero_alone c.new.ensures.items (same ∙ c.as_slice.ensures),
    )
