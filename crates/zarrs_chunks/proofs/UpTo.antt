-- Boxes from a start to where other ranges end.
use Rattle.std.proofs.Common.{◌≡◌, ℕ, zero, suc, ◌+◌, ◌-◌, ◌<◌, ◌≤◌, List, [], ◌∷◌, length, get_or, map, replicate, Result, Ok, Err, MatchOption}
use Rattle.std.proofs.Common.{refl, ap, ap₂, sym, subst, arith}
use Rattle.std.specs.Prelude.{MatchResult}
use Rattle.std.specs.List.{AllByRecursion, AllZip}
use Rattle.std.specs.Result.{result_ok}
use Rattle.zarrs_chunk_base.specs.ArraySubset.{Box, IsBox, ends}
use Rattle.zarrs_chunk_base.specs.ArraySubsetError.{IsBoxFault}
use Rattle.zarrs_chunk_base.specs.Greatest.{greatest, AllFit}
use Rattle.zarrs_chunk_base.specs.declared.array_subset_error.ArraySubsetError.{ArraySubsetError}
use Rattle.zarrs_chunk_base.specs.declared.array_subset_error.ArraySubsetError.TheVariants.{Lengths, End}
use Rattle.zarrs_chunks.proofs.Subsets.{fits_at}

-- an end that is past the greatest number keeps the ends from fitting
pub past_at : (start shape : List ℕ) (k : ℕ) → length shape ≡ length start → k < length start → greatest < get_or start k 0 + get_or shape k 0
    → ¬ AllFit (ends start shape)
past_at (s ∷ start) (n ∷ shape) zero same within past fit = let low : s + n ≤ greatest = fit.0 in absurd (omega arith)
past_at (s ∷ start) (n ∷ shape) (suc k) same within past fit = past_at start shape k (omega arith) (omega arith) past fit.1
past_at _ _ k same within past fit = absurd (omega arith)

-- sizes from starts on reach to the same ends
pub reaches : (start last_start last_shape shape : List ℕ) → AllZip ◌≤◌ start last_start → length last_shape ≡ length last_start
    → length shape ≡ length last_shape
    → ((k : ℕ) → k < length shape → get_or shape k 0 ≡ get_or last_start k 0 - get_or start k 0 + get_or last_shape k 0)
    → ends start shape ≡ ends last_start last_shape
reaches [] [] last_shape shape before same as_many each = refl
reaches (s ∷ start) (l ∷ last_start) (n ∷ last_shape) (m ∷ shape) before same as_many each =
    let low : s ≤ l = before.0 in
    let size : m ≡ l - s + n = each 0 (omega arith) in
    let here : s + m ≡ l + n = omega arith in
    ap₂ (λ x xs. x ∷ xs) here
    (reaches start last_start last_shape shape before.1 (omega arith) (omega arith) (λ k within. each (suc k) (omega arith)))
reaches (_ ∷ _) (_ ∷ _) _ _ before same as_many each = absurd (omega arith)
reaches _ _ last_shape shape before same as_many each = absurd before

-- the box of a start and such sizes, or none, where an end is past the greatest number
pub made_up_to : (start shape last_start last_shape : List ℕ) (made : Result Box ArraySubsetError) → length shape ≡ length start
    → ends start shape ≡ ends last_start last_shape
    → MatchResult made (λ b. (b ≡ record { start = start; shape = shape }) × IsBox b) (IsBoxFault start shape)
    → MatchOption (result_ok made) (¬ AllFit (ends last_start last_shape))
    (λ b. IsBox b × (b.start ≡ start) × (ends b.start b.shape ≡ ends last_start last_shape))
made_up_to start shape last_start last_shape (Ok b) same reach h = (h.1, rw h.0 refl, rw h.0 reach)
made_up_to start shape last_start last_shape (Err (Lengths e)) same reach h = absurd (h.0 same)
made_up_to start shape last_start last_shape (Err (End e)) same reach h = λ fit.
    let at = fits_at (ends start shape) e.dimension (subst AllFit (sym reach) fit) h.1.counted in
    let past = h.1.past in
    absurd (omega arith)

-- ranges of one number end one after it
pub after_ones : (last : List ℕ) → ends last (replicate (length last) 1) ≡ map (λ n. n + 1) last
after_ones [] = refl
after_ones (n ∷ last) = ap (λ rest. (n + 1) ∷ rest) (after_ones last)

-- and fit where the numbers are smaller than the greatest
pub ones_fit : (last : List ℕ) → AllByRecursion (λ n. n < greatest) last → AllFit (map (λ n. n + 1) last)
ones_fit [] small = tt
ones_fit (n ∷ last) small = (let below : n < greatest = small.0 in omega arith, ones_fit last small.1)
