-- The chunks of the target that take some of a box: what they hold of it, along each dimension and all together.
use Rattle.zarrs_chunk_plan.proofs.Common.{◌≡◌, ℕ, List, [], ◌∷◌, Contains, length}
use Rattle.zarrs_chunk_plan.proofs.Common.{arith, AreWithin, lasts, head_some, tail_some}

-- ---- along each dimension

-- the first chunk lies in a box that isn't empty
pub first_within : (first sizes : List ℕ) → length first ≡ length sizes → (¬ Contains sizes 0) → AreWithin first sizes first
first_within [] [] e some = tt
first_within (a ∷ first) (n ∷ sizes) e some =
    let here = head_some n sizes some in
    (omega arith, omega arith, first_within first sizes (omega arith) (tail_some n sizes some))
first_within _ _ e some = absurd (omega arith)

-- and so does the last one
pub last_within : (first sizes : List ℕ) → length first ≡ length sizes → (¬ Contains sizes 0) → AreWithin first sizes (lasts first sizes)
last_within [] [] e some = tt
last_within (a ∷ first) (n ∷ sizes) e some =
    let here = head_some n sizes some in
    (omega arith, omega arith, last_within first sizes (omega arith) (tail_some n sizes some))
last_within _ _ e some = absurd (omega arith)
