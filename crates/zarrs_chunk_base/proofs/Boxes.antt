-- What lists of starts and sizes have to do with their ends and with an index, dimension by dimension.
use Rattle.std.proofs.Common.{◌≡◌, ℕ, zero, suc, ◌+◌, ◌-◌, ◌^◌, ◌<◌, ◌≤◌, min, Bool, true, false, IsTrue, ◌↔◌, Option, Some, None, MatchOption, List}
use Rattle.std.proofs.Common.{[], ◌∷◌, ◌++◌, length, map, zip, replicate, get_or, refl, sym, ap, arith, true≢false}
use Rattle.std.specs.Bool.{MatchBool}
use Rattle.std.specs.List.{AllWithin, HoldsAt}
use Rattle.std.specs.Prelude.{slice_index}
use Rattle.zarrs_chunk_base.specs.ArraySubset.{IsBox, AreWithin, ends, lasts, zero_box}
use Rattle.zarrs_chunk_base.specs.ArraySubsetError.{IsFirstPast}
use Rattle.zarrs_chunk_base.specs.Greatest.{greatest, AllFit}

-- the numbers of a list of u64 fit
pub fits : (xs : List ℕ) → ((k : ℕ) → get_or xs k 0 < 2 ^ 64) → AllFit xs
fits [] each = tt
fits (x ∷ xs) each = (let first : x < 2 ^ 64 = each 0 in omega arith, fits xs (λ k. each (suc k)))

-- ---- boxes that are made

zeros_fit : (n : ℕ) → AllFit (ends (replicate n 0) (replicate n 0))
zeros_fit zero = tt
zeros_fit (suc n) = (omega arith, zeros_fit n)

pub zero_is_box : (n : ℕ) → IsBox (zero_box n)
zero_is_box n = record { lengths = refl; fits = zeros_fit n }

pub fits_push : (start shape : List ℕ) (first size : ℕ) → length start ≡ length shape → first + size ≤ greatest
    → AllFit (ends start shape) → AllFit (ends (start ++ first ∷ []) (shape ++ size ∷ []))
fits_push [] [] first size e h f = (h, tt)
fits_push (s ∷ start) (n ∷ shape) first size e h f = (f.0, fits_push start shape first size (omega arith) h f.1)
fits_push _ _ first size e h f = absurd (omega arith)

-- ---- ends

pub ends_saturated : (start shape : List ℕ) → AllFit (ends start shape)
    → map (λ p. min (p.0 + p.1) (2 ^ 64 - 1)) (zip start shape) ≡ ends start shape
ends_saturated (s ∷ start) (n ∷ shape) f =
    let fits : s + n ≤ greatest = f.0 in
    let head : min (s + n) (2 ^ 64 - 1) ≡ s + n = omega arith in
    let tail = ends_saturated start shape f.1 in
    cc
ends_saturated _ _ f = refl

pub lasts_saturated : (start shape : List ℕ) → AllFit (ends start shape)
    → map (λ p. min (p.0 + (p.1 - 1)) (2 ^ 64 - 1)) (zip start shape) ≡ lasts start shape
lasts_saturated (s ∷ start) (n ∷ shape) f =
    let fits : s + n ≤ greatest = f.0 in
    let head : min (s + (n - 1)) (2 ^ 64 - 1) ≡ s + (n - 1) = omega arith in
    let tail = lasts_saturated start shape f.1 in
    cc
lasts_saturated _ _ f = refl

-- ---- the first end that is past the greatest number

none_past : (start shape : List ℕ) → AllWithin (λ p. p.0 + p.1 ≤ greatest) (zip start shape) 0 (length (zip start shape))
    → AllFit (ends start shape)
none_past (s ∷ start) (n ∷ shape) w =
    (w 0 (0, 0) (omega arith) (omega arith), none_past start shape (λ k d _ l. w (suc k) d (omega arith) (omega arith)))
none_past _ _ w = tt

end_at : (start shape : List ℕ) (k : ℕ) → k < length (zip start shape)
    → (P : ℕ → Type 0) → HoldsAt (λ p. P (p.0 + p.1)) (zip start shape) k → (k < length (ends start shape)) × P (slice_index (ends start shape) k)
end_at (s ∷ start) (n ∷ shape) zero l P h = (omega arith, h (0, 0))
end_at (s ∷ start) (n ∷ shape) (suc k) l P h =
    let rest = end_at start shape k (omega arith) P h in (omega (arith, rest.0), rest.1)
end_at _ _ k l P h = absurd (omega arith)

first_past : (start shape : List ℕ) (i : ℕ) → (i < length (zip start shape))
    → HoldsAt (λ p. greatest < p.0 + p.1) (zip start shape) i
    → AllWithin (λ p. p.0 + p.1 ≤ greatest) (zip start shape) 0 i
    → IsFirstPast (ends start shape) i
first_past start shape i l here before =
    let found = end_at start shape i l (λ n. greatest < n) here in
    record {
      counted = found.0;
      past = found.1;
      before = λ k below. (end_at start shape k (omega arith) (λ n. n ≤ greatest) (λ d. before k d (omega arith) below)).1;
    }

pub tells_first_past : (o : Option ℕ) (start shape : List ℕ)
    → MatchOption o (AllWithin (λ p. p.0 + p.1 ≤ greatest) (zip start shape) 0 (length (zip start shape)))
    (λ i. (i < length (zip start shape)) × HoldsAt (λ p. greatest < p.0 + p.1) (zip start shape) i
    × AllWithin (λ p. p.0 + p.1 ≤ greatest) (zip start shape) 0 i)
    → MatchOption o (AllFit (ends start shape)) (IsFirstPast (ends start shape))
tells_first_past None start shape m = none_past start shape m
tells_first_past (Some i) start shape m = first_past start shape i m.0 m.1 m.2

-- ---- indices within

-- the index lies in the range of that start and size
abbrev pub In : (ℕ × ℕ) × ℕ → Type 0
In p = (p.0.0 ≤ p.1) × (p.1 < p.0.0 + p.0.1)

pub within_lengths : (start shape index : List ℕ) → AreWithin start shape index → length index ≡ length start
within_lengths [] [] [] w = refl
within_lengths (s ∷ start) (n ∷ shape) (i ∷ index) w = ap suc (within_lengths start shape index w.2)
within_lengths _ _ _ w = absurd w

within_from_all : (start shape index : List ℕ) → length start ≡ length shape → length index ≡ length start
    → AllWithin In (zip (zip start shape) index) 0 (length (zip (zip start shape) index)) → AreWithin start shape index
within_from_all [] [] [] e d w = tt
within_from_all (s ∷ start) (n ∷ shape) (i ∷ index) e d w =
    let here : In ((s, n), i) = w 0 ((0, 0), 0) (omega arith) (omega arith) in
    (here.0, here.1, within_from_all start shape index (omega arith) (omega arith) (λ k x _ l. w (suc k) x (omega arith) (omega arith)))
within_from_all _ _ _ e d w = absurd (omega arith)

within_at : (start shape index : List ℕ) → AreWithin start shape index → (k : ℕ) → k < length (zip (zip start shape) index)
    → HoldsAt In (zip (zip start shape) index) k
within_at (s ∷ start) (n ∷ shape) (i ∷ index) w zero l = λ _. (w.0, w.1)
within_at (s ∷ start) (n ∷ shape) (i ∷ index) w (suc k) l = within_at start shape index w.2 k (omega arith)
within_at [] shape index w k l = absurd (omega arith)
within_at (s ∷ start) _ _ w k l = absurd w

pub tells_within : (r : Bool) (start shape index : List ℕ) → length start ≡ length shape → length index ≡ length start
    → MatchBool r (AllWithin In (zip (zip start shape) index) 0 (length (zip (zip start shape) index)))
    ((k : ℕ) × (k < length (zip (zip start shape) index)) × HoldsAt (λ p. ¬ In p) (zip (zip start shape) index) k)
    → IsTrue r ↔ AreWithin start shape index
tells_within true start shape index e d m = (λ _. within_from_all start shape index e d m, λ _. refl)
tells_within false start shape index e d m =
    (λ t. absurd (true≢false (sym t)), λ w. absurd (m.2 ((0, 0), 0) (within_at start shape index w m.0 m.1 ((0, 0), 0))))
