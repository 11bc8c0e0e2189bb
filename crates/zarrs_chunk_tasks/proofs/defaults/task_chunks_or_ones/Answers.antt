use Rattle.std.proofs.Common.{◌≡◌, ◌∷◌, [], ℕ, zero, suc, ap, arith, map, refl, take}
use Rattle.std.specs.Int.NonZero.{non_zero_u64_get}
use Rattle.std.specs.Prelude.{◌-◌, replicate}
use Rattle.std.specs.Vec.{vec_len}
use Rattle.std.specs.declared.num.NonZeroU64.{NonZeroU64}
use Rattle.zarrs_chunk_tasks.proofs.defaults.task_chunks_or_ones.Goals as goal

-- so many of one value, in other words
mapped : {X : Type 0} (f : X → ℕ) (x : X) (count : ℕ) → map f (replicate count x) ≡ replicate count (f x)
mapped f x zero = refl
mapped f x (suc count) = ap (λ xs. f x ∷ xs) (mapped f x count)

nothing_taken : (n : ℕ) → take {A = NonZeroU64} n [] ≡ []
nothing_taken zero = refl
nothing_taken (suc n) = refl

pub returns-in_ok-resize-in-None : goal.returns-in_ok-resize-in-None
returns-in_ok-resize-in-None c =
    let count = c.args.dimensionality in
    let none = c.in_ok-ones-in-None.ensures.len in
    let all : count - vec_len c.in_ok-ones-in-None.ones ≡ count = omega (arith, none) in
    rw (c.in-None.is, c.in_ok-resize-in-None.ensures.items, c.in_ok-ones-in-None.ensures.items, nothing_taken count, all) (mapped non_zero_u64_get _ count)
