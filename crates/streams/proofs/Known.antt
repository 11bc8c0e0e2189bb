-- What is said of bytes that a reader or writer tells.
use Rattle.std.proofs.Common.{◌≡◌, Option, None, Some, IfSome, refl}

pub for_known : {X : Type 0} (o : Option X) (P : X → Type 0) → ((x : X) → o ≡ Some x → P x) → IfSome o P
for_known None P h = tt
for_known (Some x) P h = h x refl

-- of both, at the start of a run
pub for_both : {X Y : Type 0} (o : Option X) (p : Option Y) (P : X → Y → Type 0) → ((x : X) (y : Y) → o ≡ Some x → p ≡ Some y → P x y)
    → IfSome o (λ x. IfSome p (P x))
for_both o p P h = for_known o (λ x. IfSome p (P x)) (λ x is. for_known p (P x) (λ y also. h x y is also))
