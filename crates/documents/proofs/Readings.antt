-- What a call gives that stops at a fault of another.
use Rattle.std.proofs.Common.{◌≡◌, ◌⊎◌, IsErrAnd, Result, Err, ap, inl, inr, ⊎_elim}
use Rattle.std.proofs.lemmas.Result.{err_from_is_err_and}
use Rattle.documents.specs.Reading.{IsReadOr}

module _ {F X Y : Type 0} (seen : X → Y) (reading : Result Y F → Type 0) (r : Result X F) (fault : F)
    (same : IsErrAnd r (λ other. other ≡ fault)) where
  pub stops_or : {G : Type 0} (memory : F) → (fault ≡ memory) ⊎ G → (G → reading (Err fault)) → IsReadOr memory seen reading r
  stops_or memory which step = let p = err_from_is_err_and r same in rw (p.1, p.2) (⊎_elim inl (λ is. inr (step is)) which)

-- a fault that is told otherwise
module _ {E F X Y : Type 0} (seen : X → Y) (reading : Result Y F → Type 0) (r : Result X F) (by : E → F) (told : E)
    (same : IsErrAnd r (λ other. other ≡ by told)) where
  pub stops_told : {G : Type 0} (memory : E) → (told ≡ memory) ⊎ G → (G → reading (Err (by told))) → IsReadOr (by memory) seen reading r
  stops_told memory which = stops_or seen reading r (by told) same (by memory) (⊎_elim (λ is. inl (ap by is)) inr which)

-- what is read, and what is read next of it; as a value, and as a fault that comes later
pub both : {X : Type 0} {B C : X → Type 0} (x : X) → B x → C x → (y : X) × B y × C y
both x first next = (x, first, next)

pub later : {A X : Type 0} {B C : X → Type 0} (x : X) → B x → C x → A ⊎ ((y : X) × B y × C y)
later x first next = inr (both x first next)
