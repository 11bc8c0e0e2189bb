-- Lists that were written over, place by place.
use Rattle.std.proofs.Common.{◌≡◌, ℕ, suc, ◌+◌, ◌-◌, ◌<◌, List, [], ◌∷◌, get_or, length, max, min, refl, ap₂, arith}
use Rattle.zarrs_chunk_base.specs.Greatest.{greatest}
use Rattle.zarrs_chunk_parts.specs.seen.Shared.{distances, shared_sizes}

-- the steps, place by place, are the distances
pub are_distances : (from to new : List ℕ) → length from ≡ length to → length new ≡ length from
    → ((k : ℕ) → k < length to → get_or new k 0 ≡ get_or to k 0 - get_or from k 0) → new ≡ distances from to
are_distances [] [] [] same as_many each = refl
are_distances (f ∷ from) (t ∷ to) (n ∷ new) same as_many each =
    ap₂ (λ x xs. x ∷ xs) (each 0 (omega arith))
    (are_distances from to new (omega arith) (omega arith) (λ k below. each (suc k) (omega arith)))
are_distances _ _ _ same as_many each = absurd (omega arith)

-- how many indices are shared along a dimension: of a range from `first` on, and of one from `start` on
abbrev pub size_shared : (first size start other : ℕ) → ℕ
size_shared first size start other = min (first + size) (min (start + other) greatest) - max first start

-- the sizes, place by place, are those that are shared
pub are_shared_sizes : (origin edges start sizes new : List ℕ) → length edges ≡ length origin → length start ≡ length origin
    → length sizes ≡ length origin → length new ≡ length edges
    → ((k : ℕ) → k < length origin
    → get_or new k 0 ≡ size_shared (get_or origin k 0) (get_or edges k 0) (get_or start k 0) (get_or sizes k 0))
    → new ≡ shared_sizes origin edges start sizes
are_shared_sizes [] [] [] [] [] a b c as_many each = refl
are_shared_sizes (o ∷ origin) (e ∷ edges) (s ∷ start) (m ∷ sizes) (n ∷ new) a b c as_many each =
    ap₂ (λ x xs. x ∷ xs) (each 0 (omega arith))
    (are_shared_sizes origin edges start sizes new (omega arith) (omega arith) (omega arith) (omega arith)
    (λ k below. each (suc k) (omega arith)))
are_shared_sizes _ _ _ _ _ a b c as_many each = absurd (omega arith)
