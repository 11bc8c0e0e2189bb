-- What holds of one dimension of a list holds of the axis that has its place.
use Rattle.std.proofs.Common.{◌≡◌, ◌↔◌, ℕ, zero, suc, ◌<◌, List, [], ◌∷◌, IfSome, MatchOption, None, Option, Some, arith, get_or, length, map, subst, sym}
use Rattle.zarrs_chunk_base.specs.Dimension.{Dimension}
use Rattle.zarrs_chunk_axes.specs.Along.{Along}

pub along_axis : {A : Type 0} (f : A → Dimension) (P : Dimension → Type 0) (axes : List A) (k : ℕ) (axis : A) → k < length axes
    → axis ≡ get_or axes k axis
    → Along P (map f axes) k ↔ P (f axis)
along_axis f P [] k axis within is = absurd (omega arith)
along_axis f P (a ∷ axes) zero axis within is = (λ p. subst (λ x. P (f x)) (sym is) p, λ p. subst (λ x. P (f x)) is p)
along_axis f P (a ∷ axes) (suc k) axis within is = along_axis f P axes k axis (omega arith) is

pub along_within : {A : Type 0} (f : A → Dimension) (P : Dimension → Type 0) (axes : List A) (k : ℕ) → Along P (map f axes) k → k < length axes
along_within f P [] k p = absurd p
along_within f P (a ∷ axes) zero p = omega arith
along_within f P (a ∷ axes) (suc k) p = let within = along_within f P axes k p in omega arith

-- so what a look-up finds of the axis, or that there is none, it finds of the list
pub found_along : {A : Type 0} (f : A → Dimension) (P : ℕ → Dimension → Type 0) (axes : List A) (k : ℕ) (axis : A) (found : Option ℕ)
    → k < length axes → axis ≡ get_or axes k axis → MatchOption found ((n : ℕ) → ¬ P n (f axis)) (λ n. P n (f axis))
    → MatchOption found ((n : ℕ) → ¬ Along (P n) (map f axes) k) (λ n. Along (P n) (map f axes) k)
found_along f P axes k axis None within is none = λ n p. none n ((along_axis f (P n) axes k axis within is).0 p)
found_along f P axes k axis (Some n) within is p = (along_axis f (P n) axes k axis within is).1 p

pub some_along : {A X : Type 0} (f : A → Dimension) (P : X → Dimension → Type 0) (axes : List A) (k : ℕ) (axis : A) (found : Option X)
    → k < length axes → axis ≡ get_or axes k axis → IfSome found (λ x. P x (f axis)) → IfSome found (λ x. Along (P x) (map f axes) k)
some_along f P axes k axis None within is none = tt
some_along f P axes k axis (Some x) within is p = (along_axis f (P x) axes k axis within is).1 p
