-- What is known of a refusal that was made of another one.
use Rattle.std.proofs.Common.{◌≡◌}
use Rattle.zarrs_chunk_base.specs.Refusal.{IsOwn, IsRefusedAnd, MatchRefusal, OrMemory}
use Rattle.zarrs_chunk_base.specs.declared.refusal.Refusal.{Refusal}
use Rattle.zarrs_chunk_base.specs.declared.refusal.Refusal.TheVariants.{Refused, Memory}

module _ {E F : Type 0} (R : E → F → Type 0) where
  -- the second is made of the first one
  abbrev pub IsMapped : Refusal E → Refusal F → Type 0
  IsMapped r s = MatchRefusal r (λ e. IsRefusedAnd s (R e)) (λ error. s ≡ Memory error)

  -- what holds of the call's own
  pub refused_through : (r : Refusal E) (s : Refusal F) (P : E → Type 0) (Q : F → Type 0) → IsMapped r s → OrMemory P r
      → ((e : E) (f : F) → R e f → P e → Q f) → OrMemory Q s
  refused_through (Refused e) (Refused f) P Q is h follows = follows e f is h
  refused_through (Refused e) (Memory b) P Q is h follows = absurd is
  refused_through (Memory a) s P Q is h follows = rw is tt

  -- both are the call's own, or neither is
  pub own_through : (r : Refusal E) (s : Refusal F) → IsMapped r s → IsOwn r → IsOwn s
  own_through (Refused e) (Refused f) is h = tt
  own_through (Refused e) (Memory b) is h = absurd is
  own_through (Memory a) s is h = absurd h

-- what follows from what holds of the call's own refusal holds of it too
pub refused_weaker : {E : Type 0} (r : Refusal E) (P Q : E → Type 0) → OrMemory P r → ((e : E) → P e → Q e) → OrMemory Q r
refused_weaker (Refused e) P Q h follows = follows e h
refused_weaker (Memory a) P Q h follows = tt
