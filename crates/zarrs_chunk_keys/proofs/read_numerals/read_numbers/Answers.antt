use Rattle.std.proofs.Common.{◌≡◌, ◌∙◌, ℕ, ◌≤◌, List, [], ◌∷◌, ◌++◌, ap, length, length-append, subst, arith}
use Rattle.zarrs_chunk_base.specs.ChunkKeySeparator.{separator_byte}
use Rattle.zarrs_chunk_base.specs.Greatest.{greatest}
use Rattle.zarrs_chunk_keys.specs.Numeral.{IsNumeral}
use Rattle.zarrs_chunk_keys.specs.lemmas.ExactKeys.{low}
use Rattle.zarrs_chunk_keys.specs.lemmas.Parts.{EndsBefore}
use Rattle.zarrs_chunk_keys.proofs.FirstNumeral.{fit_pushed, last_read, long_enough, no_more, none_reads, one_read}
use Rattle.zarrs_chunk_keys.proofs.ReadKeys.{empty}
use Rattle.zarrs_chunk_keys.proofs.read_numerals.read_numbers.Goals as goal
use Rattle.zarrs_chunk_keys.proofs.read_numerals.read_numbers.Goals.{then-len-count, else-len-count}

pub returns-then-count-text : goal.returns-then-count-text
returns-then-count-text c = λ numbers fit lengths are.
    let b = separator_byte c.args.separator in
    let enough = long_enough b numbers (b ∷ c.args.text.now) are in
    let past = c.if-count-text.true in
    omega arith

pub returns-in_default : goal.returns-in_default
returns-in_default c = λ numbers fit lengths are.
    let none = subst
    (λ x. (n : ℕ) (numeral behind : List ℕ) → n ≤ greatest → IsNumeral n numeral → c.loop-rest.rest.now ≡ numeral ++ behind
    → ¬ EndsBefore x behind)
    c.as_char-byte.ensures c.in_default.ensures
    in
    none_reads (separator_byte c.args.separator) c.args.text.now c.loop-rest.rest.now c.loop-rest.numbers.items numbers
    c.loop-rest.invariant.read none fit are

pub returns-in_default-split_first : goal.returns-in_default-split_first
returns-in_default-split_first c =
    let b = separator_byte c.args.separator in
    let text = c.args.text.now in
    let rest = c.loop-rest.rest.now in
    let numbers = c.loop-rest.numbers.items in
    let n = c.in-Some.number in
    let (fits, (numeral, is, begins, _)) = c.in-Some.ensures in
    let alone : rest ≡ numeral ++ [] = begins ∙ ap (λ t. numeral ++ t) (empty c.in-Some.behind.now c.in_default-split_first.ensures.cases) in
    let counted = c.len-in_default-split_first.ensures in
    elim c.if-len-count.branch [
      | then-len-count w ↦
          rw w.result-is (
            omega (arith, counted, w.if-len-count.true),
            rw c.push_reserved.ensures.items (fit_pushed numbers n c.loop-rest.invariant.fit fits),
            last_read b n text rest numeral numbers c.push_reserved.new.self.items c.loop-rest.invariant.read is alone c.push_reserved.ensures.items,
          )
      | else-len-count w ↦
          rw w.result-is (λ all fit lengths are.
          let long = no_more b n text rest numeral numbers all (low c.args.separator) c.loop-rest.invariant.read is alone are in
          let longer = ap length c.push_reserved.ensures.items ∙ length-append numbers (n ∷ []) in
          let other = w.if-len-count.false in
          omega (arith, other))
    ]

pub loop-rest-preserved : goal.loop-rest-preserved
loop-rest-preserved c =
    let b = separator_byte c.args.separator in
    let rest = c.loop-rest.rest.now in
    let numbers = c.loop-rest.numbers.items in
    let n = c.in-Some.number in
    let others = c.in-Some-split_first.others.now in
    let (fits, (numeral, is, begins, ends)) = c.in-Some.ensures in
    let cut = c.in-Some-split_first.ensures.cases.0 in
    let separator = subst (EndsBefore c.as_char-byte.result) cut ends ∙ c.as_char-byte.ensures in
    let behind : rest ≡ numeral ++ b ∷ others = begins ∙ ap (λ t. numeral ++ t) (cut ∙ ap (λ c. c ∷ others) separator) in
    let longer = ap length c.push_reserved.ensures.items ∙ length-append numbers (n ∷ []) in
    let fewer = c.loop-rest-test.true in
    let counted = c.len.ensures in
    record {
      fit = rw c.push_reserved.ensures.items (fit_pushed numbers n c.loop-rest.invariant.fit fits);
      read = one_read b n c.args.text.now rest numeral others numbers c.push_reserved.new.self.items
          (low c.args.separator) c.loop-rest.invariant.read is behind c.push_reserved.ensures.items;
      within = omega arith;
      room = let capacity = c.push_reserved.ensures.capacity in let room = c.loop-rest.invariant.room in omega arith;
    }
