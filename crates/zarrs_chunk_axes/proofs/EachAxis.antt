-- What follows for all dimensions from the look-ups in each.
use Rattle.std.proofs.Common.{◌≡◌, ◌≢◌, ℕ, List, [], ◌∷◌, IsTrue, Option, Some, None, Result, Ok, Err, ⊎_elim}
use Rattle.zarrs_chunk_base.specs.declared.incompatible_dimensionality_error.IncompatibleDimensionalityError.{IncompatibleDimensionalityError}
use Rattle.zarrs_chunk_base.specs.declared.refusal.Refusal.{Refusal}
use Rattle.zarrs_chunk_base.specs.declared.refusal.Refusal.TheVariants.{Refused, Memory}
use Rattle.zarrs_chunk_base.specs.Dimension.{Dimension, InEach, IsChunk}
use Rattle.zarrs_chunk_base.specs.Refusal.{Answers, AnswersStoring}
use Rattle.zarrs_chunk_axes.specs.lemmas.LookUpEach.{SomeMisses}

-- an answer that says more says less
pub answers_storing_weaker : {X : Type 0} (Stores : ℕ → Type 0) (given n m : ℕ) (Found Sought : X → Type 0) (Absent Missing : Type 0)
    (r : Result (Option X) (Refusal IncompatibleDimensionalityError)) → n ≡ m → ((x : X) → Found x → Sought x) → (Absent → Missing)
    → AnswersStoring (Stores n) given n Found Absent r → AnswersStoring (Stores m) given m Sought Missing r
answers_storing_weaker Stores given n m Found Sought Absent Missing (Ok (Some x)) same found absent h = rw (← same) (h.0, found x h.1)
answers_storing_weaker Stores given n m Found Sought Absent Missing (Ok None) same found absent h = rw (← same) (h.0, absent h.1)
answers_storing_weaker Stores given n m Found Sought Absent Missing (Err (Refused e)) same found absent h = rw (← same) h
answers_storing_weaker Stores given n m Found Sought Absent Missing (Err (Memory e)) same found absent h = rw (← same) h

pub answers_weaker : {X : Type 0} (given n m : ℕ) (Found Sought : X → Type 0) (Absent Missing : Type 0)
    (r : Result (Option X) (Refusal IncompatibleDimensionalityError)) → n ≡ m → ((x : X) → Found x → Sought x) → (Absent → Missing)
    → Answers given n Found Absent r → Answers given m Sought Missing r
answers_weaker = answers_storing_weaker (λ n. n ≢ 0)

-- where there is nothing to find for one of the numbers, no list is related to all of them
pub none_in_each : {Y : Type 0} (misses : Dimension → ℕ → Type 0) (R : Dimension → ℕ → Y → Type 0)
    → ((d : Dimension) (n : ℕ) (y : Y) → misses d n → ¬ R d n y)
    → (ds : List Dimension) (numbers : List ℕ) (ys : List Y) → SomeMisses misses ds numbers → InEach R ds numbers ys → ⊥
none_in_each misses R none (d ∷ ds) (n ∷ numbers) (y ∷ ys) some each =
    ⊎_elim (λ here. none d n y here each.0) (λ rest. none_in_each misses R none ds numbers ys rest each.1) some
none_in_each misses R none (d ∷ ds) (n ∷ numbers) [] some each = absurd each
none_in_each misses R none _ _ _ some each = absurd some

-- each number of a chunk has one
pub has_each : (ds : List Dimension) (chunk : List ℕ) → IsChunk ds chunk → InEach (λ d c x. IsTrue (d.has_chunk c)) ds chunk chunk
has_each [] [] h = tt
has_each (d ∷ ds) (c ∷ chunk) h = (h.0, has_each ds chunk h.1)
has_each _ _ h = absurd h
