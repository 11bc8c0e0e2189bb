-- A chunk has no other key under an encoding, since a number has no other numeral.
use Rattle.std.specs.Prelude.{◌≡◌, ℕ, List, [], ◌∷◌, ◌++◌, length}
use Rattle.std.proofs.Common.{ap, ap₂, sym, ◌∙◌, refl, subst, length-append, arith}
use Rattle.zarrs_chunk_base.specs.declared.chunk_key_separator.ChunkKeySeparator.{ChunkKeySeparator}
use Rattle.zarrs_chunk_base.specs.ChunkKeySeparator.{separator_byte}
use Rattle.zarrs_chunk_keys.specs.ChunkKey.{Encoding, IsDefaultKey, IsKey, IsV2Key, c_alone, default_keys, number_more, one_more, one_number}
use Rattle.zarrs_chunk_keys.specs.ChunkKey.{suffixed, suffixed_keys, v2_keys, zero_alone}
use Rattle.zarrs_chunk_keys.specs.Numeral.{IsNumeral, digit, more_digits, one_digit}
pub use Rattle.zarrs_chunk_keys.specs.lemmas.HaveKeys.{has_key}

one_numeral : (n : ℕ) (text other : List ℕ) → IsNumeral n text → IsNumeral n other → text ≡ other
one_numeral n text other (one_digit small is) (one_digit also_small also) = is ∙ sym also
one_numeral n text other (one_digit small is) (more_digits before positive last value also) = absurd (omega arith)
one_numeral n text other (more_digits before positive last value is) (one_digit small also) = absurd (omega arith)
one_numeral n text other (more_digits {n = m} {d = d} {front = front} before positive last value is)
    (more_digits {n = k} {d = e} {front = other_front} also_before also_positive also_last also_value also) =
    let same : m ≡ k = omega arith in
    let digits : d ≡ e = omega arith in
    let fronts = one_numeral m front other_front before (subst (λ j. IsNumeral j other_front) (sym same) also_before) in
    is ∙ ap₂ (λ xs c. xs ++ digit c ∷ []) fronts digits ∙ sym also

-- the list and the number of which a list is made
record ArePushed (xs ys : List ℕ) (n m : ℕ) : Type 0 where
  lists : xs ≡ ys
  numbers : n ≡ m

unpushed : (xs ys : List ℕ) (n m : ℕ) → xs ++ n ∷ [] ≡ ys ++ m ∷ [] → ArePushed xs ys n m
unpushed [] [] n m same = record { lists = refl; numbers = cc }
unpushed [] (y ∷ ys) n m same = let lengths = ap length same in let sum = length-append ys (m ∷ []) in absurd (omega arith)
unpushed (x ∷ xs) [] n m same = let lengths = ap length same in let sum = length-append xs (n ∷ []) in absurd (omega arith)
unpushed (x ∷ xs) (y ∷ ys) n m same =
    let first : x ≡ y = cc in
    let rest = unpushed xs ys n m cc in
    let lists = rest.lists in
    record { lists = cc; numbers = rest.numbers }

not_pushed : (chunk others : List ℕ) (n : ℕ) → chunk ≡ [] → ¬ (chunk ≡ others ++ n ∷ [])
not_pushed chunk others n none more =
    let empty = ap length none in
    let lengths = ap length more in
    let sum = length-append others (n ∷ []) in
    absurd (omega arith)

joined : (separator : ChunkKeySeparator) (front other_front numeral other_numeral key other : List ℕ) → front ≡ other_front → numeral ≡ other_numeral
    → key ≡ front ++ separator_byte separator ∷ numeral → other ≡ other_front ++ separator_byte separator ∷ other_numeral → key ≡ other
joined separator front other_front numeral other_numeral key other fronts numerals is also =
    is ∙ ap₂ (λ xs ys. xs ++ separator_byte separator ∷ ys) fronts numerals ∙ sym also

one_default_key : (separator : ChunkKeySeparator) (chunk key other : List ℕ) → IsDefaultKey separator chunk key
    → IsDefaultKey separator chunk other → key ≡ other
one_default_key separator chunk key other (c_alone none is) (c_alone nothing also) = is ∙ sym also
one_default_key separator chunk key other (c_alone none is) (one_more {others = ys} {n = m} rest last more also) =
    absurd (not_pushed chunk ys m none more)
one_default_key separator chunk key other (one_more {others = xs} {n = n} rest last more is) (c_alone none also) =
    absurd (not_pushed chunk xs n none more)
one_default_key separator chunk key other (one_more {others = xs} {front = front} {numeral = s} {n = n} rest last more is)
    (one_more {others = ys} {front = other_front} {numeral = t} {n = m} other_rest other_last other_more also) =
    let pushed = unpushed xs ys n m (sym more ∙ other_more) in
    let fronts = one_default_key separator xs front other_front rest
    (subst (λ zs. IsDefaultKey separator zs other_front) (sym pushed.lists) other_rest) in
    let numerals = one_numeral n s t last (subst (λ k. IsNumeral k t) (sym pushed.numbers) other_last) in
    joined separator front other_front s t key other fronts numerals is also

one_v2_key : (separator : ChunkKeySeparator) (chunk key other : List ℕ) → IsV2Key separator chunk key → IsV2Key separator chunk other → key ≡ other
one_v2_key separator chunk key other (zero_alone none is) (zero_alone nothing also) = is ∙ sym also
one_v2_key separator chunk key other (zero_alone none is) (one_number {n = m} last one) = absurd (not_pushed chunk [] m none one)
one_v2_key separator chunk key other (zero_alone none is) (number_more {others = ys} {n = m} rest some last more also) =
    absurd (not_pushed chunk ys m none more)
one_v2_key separator chunk key other (one_number {n = n} last one) (zero_alone none also) = absurd (not_pushed chunk [] n none one)
one_v2_key separator chunk key other (one_number {n = n} last one) (one_number {n = m} other_last also) =
    let pushed = unpushed [] [] n m (sym one ∙ also) in
    one_numeral n key other last (subst (λ k. IsNumeral k other) (sym pushed.numbers) other_last)
one_v2_key separator chunk key other (one_number {n = n} last one) (number_more {others = ys} {n = m} rest some other_last more also) =
    let pushed = unpushed [] ys n m (sym one ∙ more) in absurd (some (sym pushed.lists))
one_v2_key separator chunk key other (number_more {others = xs} {n = n} rest some last more is) (zero_alone none also) =
    absurd (not_pushed chunk xs n none more)
one_v2_key separator chunk key other (number_more {others = xs} {n = n} rest some last more is) (one_number {n = m} other_last one) =
    let pushed = unpushed xs [] n m (sym more ∙ one) in absurd (some pushed.lists)
one_v2_key separator chunk key other (number_more {others = xs} {front = front} {numeral = s} {n = n} rest some last more is)
    (number_more {others = ys} {front = other_front} {numeral = t} {n = m} other_rest other_some other_last other_more also) =
    let pushed = unpushed xs ys n m (sym more ∙ other_more) in
    let fronts = one_v2_key separator xs front other_front rest (subst (λ zs. IsV2Key separator zs other_front) (sym pushed.lists) other_rest) in
    let numerals = one_numeral n s t last (subst (λ k. IsNumeral k t) (sym pushed.numbers) other_last) in
    joined separator front other_front s t key other fronts numerals is also

pub one_key : (encoding : Encoding) (chunk key other : List ℕ) → IsKey encoding chunk key → IsKey encoding chunk other → key ≡ other
unfolding IsKey
one_key (default_keys separator) chunk key other is also = one_default_key separator chunk key other is also
one_key (v2_keys separator) chunk key other is also = one_v2_key separator chunk key other is also
one_key (suffixed_keys separator suffix) chunk key other (suffixed {front = front} is ends) (suffixed {front = other_front} also other_ends) =
    ends ∙ ap (λ xs. xs ++ suffix) (one_default_key separator chunk front other_front is also) ∙ sym other_ends
