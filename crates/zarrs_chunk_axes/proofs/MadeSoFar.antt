-- The axes that were made so far, and those of the array sizes and configurations that are left.
use Rattle.std.proofs.Common.{◌≡◌, ◌≢◌, ◌↔◌, ℕ, suc, ap, List, [], ◌∷◌, ◌++◌, length, map, subst, sym, append_assoc, append-nil, refl, arith}
use Rattle.std.specs.List.{AllZip}
use Rattle.zarrs_chunk_base.specs.Refusal.{OrMemory}
use Rattle.zarrs_chunk_base.specs.declared.refusal.Refusal.{Refusal}
use Rattle.zarrs_chunk_base.proofs.Refusals.{IsMapped, refused_through}
use Rattle.zarrs_chunk_base.specs.Dimension.{Dimension, InEach}
use Rattle.zarrs_chunk_base.specs.DimensionEdges.{DimensionEdges}

module _ {C : Type 0} (accepted : ℕ → C → Type 0) where
  -- what was accepted so far leaves the rests to decide
  pub record AcceptedSoFar (shape : List ℕ) (configurations : List C) (shape_left : List ℕ) (left : List C) : Type 0 where
    pub lengths : length shape_left ≡ length left
    pub all : AllZip accepted shape_left left → AllZip accepted shape configurations
    pub rest : AllZip accepted shape configurations → AllZip accepted shape_left left

  pub none_accepted : (shape : List ℕ) (configurations : List C) → length shape ≡ length configurations
      → AcceptedSoFar shape configurations shape configurations
  none_accepted shape configurations same = record { lengths = same; all = λ h. h; rest = λ h. h }

  pub one_accepted : (shape : List ℕ) (configurations : List C) (a : ℕ) (c : C) (shape_left : List ℕ) (left : List C)
      → AcceptedSoFar shape configurations (a ∷ shape_left) (c ∷ left) → accepted a c → AcceptedSoFar shape configurations shape_left left
  one_accepted shape configurations a c shape_left left so_far is = record {
    lengths = omega (arith, so_far.lengths);
    all = λ h. so_far.all (is, h);
    rest = λ h. (so_far.rest h).1;
  }

  pub all_accepted : (shape : List ℕ) (configurations : List C) (shape_left : List ℕ) (left : List C)
      → AcceptedSoFar shape configurations shape_left left → length shape_left ≡ 0 → AllZip accepted shape configurations
  all_accepted shape configurations [] [] so_far none = so_far.all tt
  all_accepted shape configurations [] (c ∷ left) so_far none = absurd (omega (arith, so_far.lengths))
  all_accepted shape configurations (a ∷ shape_left) left so_far none = absurd (omega arith)

module _ {C A : Type 0} (accepted : ℕ → C → Type 0) (dimension : A → Dimension) (made : Dimension → ℕ → C → Type 0) (edges : A → DimensionEdges)
    (tells : C → DimensionEdges) where
  -- what is left is accepted, and what is made of it makes all
  pub record MadeSoFar (shape : List ℕ) (configurations : List C) (shape_left : List ℕ) (left : List C) (axes : List A) : Type 0 where
    pub accepted_left : AllZip accepted shape_left left
    pub all : (more : List A) → InEach made (map dimension more) shape_left left → InEach made (map dimension (axes ++ more)) shape configurations
    pub told : (more : List A) → map edges more ≡ map tells left → map edges (axes ++ more) ≡ map tells configurations

  pub none_made : (shape : List ℕ) (configurations : List C) → AllZip accepted shape configurations
      → MadeSoFar shape configurations shape configurations []
  none_made shape configurations all = record { accepted_left = all; all = λ more h. h; told = λ more h. h }

  pub one_made : (shape : List ℕ) (configurations : List C) (a : ℕ) (c : C) (shape_left : List ℕ) (left : List C) (axes : List A) (axis : A)
      → MadeSoFar shape configurations (a ∷ shape_left) (c ∷ left) axes → made (dimension axis) a c → edges axis ≡ tells c
      → MadeSoFar shape configurations shape_left left (axes ++ axis ∷ [])
  one_made shape configurations a c shape_left left axes axis so_far is same = record {
    accepted_left = so_far.accepted_left.1;
    all = λ more h.
        subst (λ (v : List A). InEach made (map dimension v) shape configurations) (sym (append_assoc axes (axis ∷ []) more))
        (so_far.all (axis ∷ more) (is, h));
    told = λ more h.
        subst (λ (v : List A). map edges v ≡ map tells configurations) (sym (append_assoc axes (axis ∷ []) more))
        (so_far.told (axis ∷ more) (rw (same, h) refl));
  }

  pub all_made : (shape : List ℕ) (configurations : List C) (shape_left : List ℕ) (left : List C) (axes : List A)
      → MadeSoFar shape configurations shape_left left axes → length shape_left ≡ 0 → InEach made (map dimension axes) shape configurations
  all_made shape configurations [] [] axes so_far none =
      subst (λ (v : List A). InEach made (map dimension v) shape configurations) (append-nil axes) (so_far.all [] tt)
  all_made shape configurations [] (c ∷ left) axes so_far none = absurd so_far.accepted_left
  all_made shape configurations (a ∷ shape_left) left axes so_far none = absurd (omega arith)

  pub all_told : (shape : List ℕ) (configurations : List C) (shape_left : List ℕ) (left : List C) (axes : List A)
      → MadeSoFar shape configurations shape_left left axes → length shape_left ≡ 0 → map edges axes ≡ map tells configurations
  all_told shape configurations [] [] axes so_far none =
      subst (λ (v : List A). map edges v ≡ map tells configurations) (append-nil axes) (so_far.told [] refl)
  all_told shape configurations [] (c ∷ left) axes so_far none = absurd so_far.accepted_left
  all_told shape configurations (a ∷ shape_left) left axes so_far none = absurd (omega arith)

-- where any size and edges are accepted, lists of one length are, and no others
pub any_accepted : {C E : Type 0} (f : C → E) (shape : List ℕ) (configurations : List C)
    → AllZip (λ _ _. Unit {0}) shape (map f configurations) ↔ length configurations ≡ length shape
any_accepted f [] [] = (λ _. refl, λ _. tt)
any_accepted f (a ∷ shape) (c ∷ configurations) =
    let rest = any_accepted f shape configurations in
    (λ h. ap suc (rest.0 h.1), λ same. (tt, rest.1 (omega arith)))
any_accepted f _ _ = (λ h. absurd h, λ same. absurd (omega arith))

-- so a refusal that was made of theirs tells unequal lengths
pub unequal_lengths : {C E X Y : Type 0} (f : C → E) (shape : List ℕ) (configurations : List C) (R : X → Y → Type 0) (r : Refusal X) (s : Refusal Y)
    → IsMapped R r s → OrMemory (λ _. ¬ AllZip (λ _ _. Unit {0}) shape (map f configurations)) r
    → OrMemory (λ _. length configurations ≢ length shape) s
unequal_lengths f shape configurations R r s is h =
    refused_through R r s (λ _. ¬ AllZip (λ _ _. Unit {0}) shape (map f configurations)) (λ _. length configurations ≢ length shape) is h
    (λ x y made not same. not ((any_accepted f shape configurations).1 same))

-- what is accepted of configurations is accepted of their edges
pub edges_accepted : {C E : Type 0} (f : C → E) (accepted : ℕ → E → Type 0) (shape : List ℕ) (configurations : List C)
    → AllZip (λ size c. accepted size (f c)) shape configurations ↔ AllZip accepted shape (map f configurations)
edges_accepted f accepted [] [] = (λ h. h, λ h. h)
edges_accepted f accepted (a ∷ shape) (c ∷ configurations) =
    let rest = edges_accepted f accepted shape configurations in
    (λ h. (h.0, rest.0 h.1), λ h. (h.0, rest.1 h.1))
edges_accepted f accepted _ _ = (λ h. h, λ h. h)
