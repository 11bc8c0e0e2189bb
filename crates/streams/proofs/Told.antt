-- What a program writes about an error.
use Rattle.std.proofs.Common.{◌≡◌, ℕ, Bool, true, List, ◌++◌, Option, Some, Result, Ok, Err, OnErr, OnOk, IfErr, MatchResult, arith, codes, inl, inr, refl}
use Rattle.streams.specs.Told.{HasBegunText, IsErrorLine, IsWrittenUnlessFailed}

-- a write that says by its outcome what it left
pub written_unless_failed : {T E : Type 0} (r : Result T E) (text held : List ℕ) (holds : Option (List ℕ)) (failed_before failed_after : Bool)
    → OnOk r (holds ≡ Some (held ++ text)) → OnOk r (failed_after ≡ failed_before) → OnErr r (HasBegunText text held holds)
    → OnErr r (failed_after ≡ true) → IsWrittenUnlessFailed text held holds failed_before failed_after
written_unless_failed (Ok _) text held holds failed_before failed_after ok unfailed begun failed = inl (ok, unfailed)
written_unless_failed (Err _) text held holds failed_before failed_after ok unfailed begun failed = inr (failed, begun)

pub on_err : {T E : Type 0} (r : Result T E) (P : E → Type 0) (Q : Type 0) → IfErr r (λ e. P e × Q) → OnErr r Q
on_err (Ok _) P Q both = tt
on_err (Err _) P Q both = both.1

-- a program that ends with 0 has no error
pub on_zero : {T E : Type 0} (r : Result T E) (status : ℕ) (P : Type 0) → MatchResult r (λ _. status ≡ 0) (λ _. status ≡ 1) → OnOk r P → status ≡ 0 → P
on_zero (Ok _) status P same is zero = is
on_zero (Err _) status P one is zero = absurd (omega (arith, zero, one))

-- one that ends with 1 has one
pub on_one : {T E : Type 0} (r : Result T E) (status : ℕ) (P : Type 0) → MatchResult r (λ _. status ≡ 0) (λ _. status ≡ 1) → OnErr r P → status ≡ 1 → P
on_one (Ok _) status P zero is one = absurd (omega (arith, zero, one))
on_one (Err _) status P same is one = is

-- the line that says that there is no memory
pub no_memory : (program : List ℕ) → IsErrorLine program (codes "out of memory\n")
no_memory program = ((codes "out of memory", refl, refl), inr refl)
