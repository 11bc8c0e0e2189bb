-- Texts that are put together of parts, and taken apart again.
use Rattle.std.specs.Prelude.{◌≡◌, ℕ, ◌<◌, List, [], ◌∷◌, ◌++◌, length}
use Rattle.std.proofs.Common.{ap, sym, refl, subst, length-append, arith}
use Rattle.zarrs_chunk_keys.specs.lemmas.Numerals.{AreHigh}

heads : {x y : ℕ} {xs ys : List ℕ} → x ∷ xs ≡ y ∷ ys → x ≡ y
heads same = cc

pub tails : {x y : ℕ} {xs ys : List ℕ} → x ∷ xs ≡ y ∷ ys → xs ≡ ys
tails same = cc

-- a byte below the digits isn't in high bytes
not_within : (separator : ℕ) (front behind : List ℕ) → separator < 48 → ¬ AreHigh (front ++ separator ∷ behind)
not_within separator [] behind low high = let here = high.0 in absurd (omega arith)
not_within separator (x ∷ front) behind low high = not_within separator front behind low high.1

-- where high bytes stand behind a low one, the parts before and behind it are known
pub same_parts : (separator : ℕ) (xs ys s t : List ℕ) → separator < 48 → AreHigh s → AreHigh t → xs ++ separator ∷ s ≡ ys ++ separator ∷ t
    → (xs ≡ ys) × (s ≡ t)
same_parts separator [] [] s t low high_s high_t same = (refl, tails same)
same_parts separator [] (y ∷ ys) s t low high_s high_t same = absurd (not_within separator ys t low (subst AreHigh (tails same) high_s))
same_parts separator (x ∷ xs) [] s t low high_s high_t same = absurd (not_within separator xs s low (subst AreHigh (sym (tails same)) high_t))
same_parts separator (x ∷ xs) (y ∷ ys) s t low high_s high_t same =
    let rest = same_parts separator xs ys s t low high_s high_t (tails same) in
    let first = heads same in
    let before = rest.0 in
    (cc, rest.1)

-- what ends alike begins alike
pub same_front : (xs ys suffix : List ℕ) → xs ++ suffix ≡ ys ++ suffix → xs ≡ ys
same_front [] [] suffix same = refl
same_front [] (y ∷ ys) suffix same = let lengths = ap length same in let sum = length-append ys suffix in absurd (omega arith)
same_front (x ∷ xs) [] suffix same = let lengths = ap length same in let sum = length-append xs suffix in absurd (omega arith)
same_front (x ∷ xs) (y ∷ ys) suffix same =
    let rest = same_front xs ys suffix (tails same) in
    let first = heads same in
    cc

-- a text with a low byte in it is no single byte above it
pub not_alone : (separator c : ℕ) (front behind : List ℕ) → separator < c → ¬ (front ++ separator ∷ behind ≡ c ∷ [])
not_alone separator c [] behind low same = let here = heads same in absurd (omega arith)
not_alone separator c (x ∷ front) behind low same =
    let lengths = ap length (tails same) in
    let sum = length-append front (separator ∷ behind) in
    absurd (omega arith)

-- a text is empty or begins with the byte
abbrev pub EndsBefore : ℕ → List ℕ → Type 0
EndsBefore separator [] = Unit {0}
EndsBefore separator (c ∷ rest) = c ≡ separator
