-- There is one regular grid of an array shape and a chunk shape.
use Rattle.std.proofs.Common.{◌≡◌, ◌∙◌, ℕ, List, [], ◌∷◌, refl, sym, arith, ap₂}
use Rattle.zarrs_chunk_axes.specs.EqualEdges.{AreEqualEdges, IsEqualEdges}
use Rattle.zarrs_chunk_base.specs.Dimension.{Dimension, array_sizes}

one_dimension : (d other : Dimension) (size edge : ℕ) → IsEqualEdges d size edge → IsEqualEdges other size edge → d ≡ other
one_dimension d other size edge is are =
    let sizes : d.array_size ≡ other.array_size = is.array_size ∙ sym are.array_size in
    let counts : d.grid_size ≡ other.grid_size = omega (arith, is.least other.grid_size are.covers, are.least d.grid_size is.covers) in
    let chunks : (c : ℕ) → d.has_chunk c ≡ other.has_chunk c = λ c. is.chunks c ∙ sym (are.chunks c) in
    let starts : (c : ℕ) → d.start c ≡ other.start c = λ c. is.start c ∙ sym (are.start c) in
    let ends : (c : ℕ) → d.end c ≡ other.end c = λ c. is.end c ∙ sym (are.end c) in
    λ i. record { array_size = sizes i; grid_size = counts i; has_chunk = λ c. chunks c i; start = λ c. starts c i; end = λ c. ends c i }

pub one_grid : (ds others : List Dimension) (sizes edges : List ℕ) → AreEqualEdges ds sizes edges → AreEqualEdges others sizes edges → ds ≡ others
one_grid [] [] [] [] are others_are = refl
one_grid (d ∷ ds) (other ∷ others) (n ∷ sizes) (e ∷ edges) are others_are =
    ap₂ (λ x xs. x ∷ xs) (one_dimension d other n e are.0 others_are.0) (one_grid ds others sizes edges are.1 others_are.1)
one_grid [] (_ ∷ _) [] [] are others_are = absurd others_are
one_grid (_ ∷ _) [] (_ ∷ _) (_ ∷ _) are others_are = absurd others_are
one_grid [] _ (_ ∷ _) _ are others_are = absurd are
one_grid [] _ [] (_ ∷ _) are others_are = absurd are
one_grid (_ ∷ _) _ [] _ are others_are = absurd are
one_grid (_ ∷ _) _ (_ ∷ _) [] are others_are = absurd are

-- its array has that shape
pub sizes_are : (ds : List Dimension) (sizes edges : List ℕ) → AreEqualEdges ds sizes edges → array_sizes ds ≡ sizes
sizes_are [] [] [] are = refl
sizes_are (d ∷ ds) (n ∷ sizes) (e ∷ edges) are = ap₂ (λ x xs. x ∷ xs) are.0.array_size (sizes_are ds sizes edges are.1)
sizes_are [] (_ ∷ _) _ are = absurd are
sizes_are [] [] (_ ∷ _) are = absurd are
sizes_are (_ ∷ _) [] _ are = absurd are
sizes_are (_ ∷ _) (_ ∷ _) [] are = absurd are
