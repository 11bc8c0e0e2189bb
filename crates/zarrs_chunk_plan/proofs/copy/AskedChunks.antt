-- The chunks of which a change is asked for are those that are told.
use Rattle.zarrs_chunk_plan.proofs.Common.{◌↔◌, ◌⊎◌, ℕ, Bool, List, [], ◌∷◌, Contains, inl, inr, arith, Dimension, AreBelow, IsKept, IsUsed}
use Rattle.zarrs_chunk_plan.specs.Resize.{AreChanged, IsAsked}
use Rattle.zarrs_chunk_plan.specs.seen.Outside.{AreOnce, IsOutside, IsToldBefore}

-- numbers are below sizes, or they aren't
pub below_or_not : (sizes numbers : List ℕ) → AreBelow sizes numbers ⊎ (¬ AreBelow sizes numbers)
below_or_not [] [] = inl tt
below_or_not (size ∷ sizes) (n ∷ numbers) = let rest = below_or_not sizes numbers in grind arith
below_or_not _ _ = inr (λ below. below)

module _ (before after : List Dimension) (used used_after kept : List ℕ)
    (named : (chunk : List ℕ) → AreBelow used chunk ↔ IsUsed before chunk)
    (named_after : (chunk : List ℕ) → AreBelow used_after chunk ↔ IsUsed after chunk)
    (are_kept : (chunk : List ℕ) → AreBelow kept chunk ↔ IsKept before after chunk)
    (include_unchanged : Bool) where
  asked : (chunk : List ℕ)
      → (IsToldBefore include_unchanged used kept chunk ⊎ IsOutside used used_after chunk) ↔ IsAsked before after include_unchanged chunk
  asked chunk =
      let is_used_after = named_after chunk in
      let is_kept = are_kept chunk in
      let tested = below_or_not used chunk in
      grind arith

  pub are_changed : (chunks : List (List ℕ)) → AreOnce chunks
      → ((chunk : List ℕ) → Contains chunks chunk ↔ (IsToldBefore include_unchanged used kept chunk ⊎ IsOutside used used_after chunk))
      → AreChanged before after include_unchanged chunks
  are_changed chunks once told = record {
    once = once;
    are_those = λ chunk.
        let there = told chunk in
        let is_asked = asked chunk in
        (λ has. is_asked.0 (there.0 has), λ wanted. there.1 (is_asked.1 wanted));
  }
