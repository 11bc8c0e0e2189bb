-- Grids that one configuration makes of two array shapes: an index that both arrays have lies in the same chunk of either.
use Rattle.zarrs_chunk_plan.proofs.Common.{◌≡◌, ◌∙◌, ℕ, ◌+◌, ◌*◌, ◌<◌, ◌≤◌, min, List, [], ◌∷◌, map, refl, subst, sym, arith, Dimension, Holds}
use Rattle.zarrs_chunk_plan.proofs.Common.{InEach, length_values, IsEqualEdges, AreResized}
use Rattle.zarrs_chunk_base.specs.DimensionEdges.{DimensionEdges, equal, listed}
use Rattle.zarrs_chunk_base.specs.Grid.{Grid}
use Rattle.zarrs_chunk_base.specs.Kinds.{IsMadeOf}
use Rattle.zarrs_chunk_base.specs.Metadata.{Extension}
use Rattle.zarrs_chunk_base.specs.RunLength.{edges_of_lengths}
use Rattle.zarrs_chunk_base.proofs.KindsByName.{AreFound, same_kind}
use Rattle.zarrs_chunk_axes.specs.Bounded.{IsBounded}
use Rattle.zarrs_chunk_axes.specs.EqualOrListed.{IsEqualOrListed}
use Rattle.zarrs_chunk_axes.specs.Listed.{IsListed}
use Rattle.zarrs_chunks.specs.GridKinds.{GridKind, IsGrid, grid_kind, grid_kinds, rectangular, rectilinear, regular, regular_bounded}
use Rattle.zarrs_chunk_plan.specs.Resize.{IsResized}

-- ---- along one dimension

-- what the one dimension holds of the other's array, the other holds too
abbrev HoldsToo : Dimension → Dimension → Type 0
HoldsToo d other = (c i : ℕ) → i < other.array_size → Holds d c i → Holds other c i

both_ways : (d other : Dimension) → HoldsToo d other → HoldsToo other d → IsResized d other
both_ways d other one also = record { same_chunk = λ c i before after. (one c i after, also c i before) }

equal_holds : (d other : Dimension) (size also edge : ℕ) → IsEqualEdges d size edge → IsEqualEdges other also edge → HoldsToo d other
equal_holds d other size also edge is are c i below holds = record {
  chunk = are.chunks c;
  from = rw (are.start c, ← is.start c) holds.from;
  below = rw (are.end c, ← is.end c) holds.below;
}

bounded_holds : (d other : Dimension) (size also edge : ℕ) → IsBounded d size edge → IsBounded other also edge → HoldsToo d other
bounded_holds d other size also edge is are c i below holds =
    let from : c * edge ≤ i = rw (is.start c holds.chunk) at holds.from in
    let inside : i < also = rw (are.array_size) at below in
    let chunk = (are.chunks c).1 (let starts : c * edge < also = omega arith in starts) in
    record {
      chunk = chunk;
      from = rw (are.start c chunk) from;
      below = rw (are.end c chunk) (let ends : i < min ((c + 1) * edge) also = omega arith in ends);
    }

listed_holds : (d other : Dimension) (size also : ℕ) (edges : List ℕ) → IsListed d size edges → IsListed other also edges → HoldsToo d other
listed_holds d other size also edges is are c i below holds =
    let chunk = (are.chunks c).1 ((is.chunks c).0 holds.chunk) in
    record {
      chunk = chunk;
      from = rw (are.start c chunk, ← is.start c holds.chunk) holds.from;
      below = rw (are.end c chunk, ← is.end c holds.chunk) holds.below;
    }

either_holds : (d other : Dimension) (size also : ℕ) (edges : DimensionEdges) → IsEqualOrListed d size edges → IsEqualOrListed other also edges
    → HoldsToo d other
either_holds d other size also (equal edge) = equal_holds d other size also edge
either_holds d other size also (listed edges) = listed_holds d other size also edges

-- ---- along each

module _ {X : Type 0} (R : Dimension → ℕ → X → Type 0)
    (holds : (d other : Dimension) (size also : ℕ) (x : X) → R d size x → R other also x → HoldsToo d other) where
  are_resized : (before : List Dimension) (shape : List ℕ) (xs : List X) (after : List Dimension) (other : List ℕ) → InEach R before shape xs
      → InEach R after other xs → AreResized before after
  are_resized [] [] [] [] [] is are = tt
  are_resized (d ∷ before) (size ∷ shape) (x ∷ xs) (e ∷ after) (also ∷ other) is are =
      (both_ways d e (holds d e size also x is.0 are.0) (holds e d also size x are.0 is.0), are_resized before shape xs after other is.1 are.1)
  are_resized _ _ xs after other is are = absurd (first_of (assumption, omega (arith, length_values R after other xs are)))

-- ---- of one configuration

-- each kind is found by its name
are_found : AreFound grid_kind grid_kinds
are_found regular = refl
are_found regular_bounded = refl
are_found rectangular = refl
are_found rectilinear = refl

-- what one kind makes of what is said, of two array shapes
of_kind : (kind : GridKind) (shape other : List ℕ) (before after : Grid) (said : (grid_kind kind).Said) → (grid_kind kind).makes before shape said
    → (grid_kind kind).makes after other said → AreResized before.dimensions after.dimensions
of_kind regular shape other before after edges is are =
    are_resized IsEqualEdges equal_holds before.dimensions shape edges after.dimensions other is.0 are.0
of_kind regular_bounded shape other before after edges is are =
    are_resized IsBounded bounded_holds before.dimensions shape edges after.dimensions other is.0 are.0
of_kind rectangular shape other before after edges is are =
    are_resized IsEqualOrListed either_holds before.dimensions shape edges after.dimensions other is.0 are.0
of_kind rectilinear shape other before after lengths is are =
    are_resized IsEqualOrListed either_holds before.dimensions shape (map edges_of_lengths lengths) after.dimensions other is.0 are.0

-- the configuration stands for one value alone
of_one_kind : (kind : GridKind) (e : Extension) (shape other : List ℕ) (before after : Grid) → IsMadeOf (grid_kind kind) e shape before
    → IsMadeOf (grid_kind kind) e other after → AreResized before.dimensions after.dimensions
of_one_kind kind e shape other before after (said, (_, is), _, makes) (again, (_, also), _, makes_again) =
    let same : again ≡ said = cc in
    of_kind kind shape other before after said makes (subst ((grid_kind kind).makes after other) same makes_again)

pub one_configuration : (e : Extension) (shape other : List ℕ) (before after : Grid) → IsGrid e shape before → IsGrid e other after
    → AreResized before.dimensions after.dimensions
one_configuration e shape other before after (kind, (name, made)) (also, (name_again, made_again)) =
    let same : also ≡ kind = same_kind grid_kind grid_kinds are_found also kind (sym name_again ∙ name) in
    of_one_kind kind e shape other before after made (subst (λ k. IsMadeOf (grid_kind k) e other after) same made_again)
