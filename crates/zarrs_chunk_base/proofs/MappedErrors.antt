-- What still holds of an answer of which only the error was mapped.
use Rattle.std.proofs.Common.{◌≡◌, Result, Ok, Err, IfOk, MatchResult, is_ok, refl, sym, ap, ◌∙◌, subst, true≢false}

-- what was said of the value
pub value_is_kept : {T E F : Type 0} (before : Result T E) (after : Result T F) (P : T → Type 0) (Q M : E → Type 0) (x : T) → MatchResult before P Q
    → MatchResult before (λ y. after ≡ Ok y) M → is_ok after ≡ is_ok before → after ≡ Ok x → P x
value_is_kept (Ok y) after P Q M x says cases variant is =
    let same : y ≡ x = cc in
    subst P same says
value_is_kept (Err e) after P Q M x says cases variant is = absurd (true≢false (sym (ap is_ok is) ∙ variant))

-- what follows from what was said of the value
pub follows_of_value : {T E F : Type 0} (before : Result T E) (after : Result T F) (P R : T → Type 0) (Q M : E → Type 0) → ((x : T) → P x → R x)
    → MatchResult before P Q → MatchResult before (λ y. after ≡ Ok y) M → is_ok after ≡ is_ok before → IfOk after R
follows_of_value before (Ok x) P R Q M step says cases variant = step x (value_is_kept before (Ok x) P Q M x says cases variant refl)
follows_of_value before (Err e) P R Q M step says cases variant = tt
