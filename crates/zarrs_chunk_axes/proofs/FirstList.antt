-- The first of the lists below a shape.
use Rattle.std.proofs.Common.{◌≡◌, ◌∙◌, ℕ, zero, suc, ◌+◌, ◌<◌, ◌==◌, ◌||◌, true, false, List, [], ◌∷◌, length, map, replicate, refl, ap, subst, sym}
use Rattle.std.proofs.Common.{true≢false, arith}
use Rattle.std.proofs.Math.Dec.{eqb-suc-zero}
use Rattle.std.specs.List.{list_any}
use Rattle.zarrs_chunk_axes.specs.InBounds.{AreBelow}
use Rattle.zarrs_chunk_axes.specs.RowMajor.{NeedsMemory, row_major, rows}
use Rattle.zarrs_chunk_axes.specs.seen.Counting.{after}
use Rattle.zarrs_chunk_axes.proofs.Passing.{first_is_zeros}

-- a size that isn't 0 says nothing of the others
skipped : (size : ℕ) (shape : List ℕ) → list_any (λ size. size == 0) (suc size ∷ shape) ≡ list_any (λ size. size == 0) shape
skipped size shape = ap (λ b. b || list_any (λ size. size == 0) shape) (eqb-suc-zero size)

no_rows : (first count : ℕ) → rows first count [] ≡ []
no_rows first zero = refl
no_rows first (suc count) = no_rows (first + 1) count

-- where a size is 0 there is none
pub none_below : (shape : List ℕ) → list_any (λ size. size == 0) shape ≡ true → row_major shape ≡ []
unfolding row_major
none_below [] has = absurd (true≢false (sym has))
none_below (zero ∷ shape) has = refl
none_below (suc size ∷ shape) has = ap (rows 0 (suc size)) (none_below shape (sym (skipped size shape) ∙ has)) ∙ no_rows 0 (suc size)

-- and else it is 0 in each dimension
pub zeros_are_below : (shape : List ℕ) → list_any (λ size. size == 0) shape ≡ false → AreBelow shape (replicate (length shape) 0)
zeros_are_below [] none = tt
zeros_are_below (zero ∷ shape) none = absurd (true≢false none)
zeros_are_below (suc size ∷ shape) none = (omega arith, zeros_are_below shape (sym (skipped size shape) ∙ none))

zeros_again : (n : ℕ) → map {B = ℕ} (λ _. 0) (replicate {A = ℕ} n 0) ≡ replicate n 0
zeros_again zero = refl
zeros_again (suc n) = ap (λ zeros. 0 ∷ zeros) (zeros_again n)

pub begins_with_zeros : (shape : List ℕ) → list_any (λ size. size == 0) shape ≡ false
    → row_major shape ≡ replicate (length shape) 0 ∷ after shape (replicate (length shape) 0)
begins_with_zeros shape none =
    subst (λ zeros. row_major shape ≡ zeros ∷ after shape zeros) (zeros_again (length shape))
    (first_is_zeros shape (replicate (length shape) 0) (zeros_are_below shape none))

length_zeros : (n : ℕ) → length {A = ℕ} (replicate n 0) ≡ n
length_zeros zero = refl
length_zeros (suc n) = ap suc (length_zeros n)

pub needs_memory : (shape : List ℕ) → list_any (λ size. size == 0) shape ≡ false → 4 < length shape → NeedsMemory (row_major shape)
needs_memory shape none long =
    let same = length_zeros (length shape) in
    let more : 4 < length {A = ℕ} (replicate (length shape) 0) = omega arith in
    subst NeedsMemory (sym (begins_with_zeros shape none)) more
