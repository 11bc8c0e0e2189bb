-- That array sizes and edges are accepted is a fact: it has no more than one value.
use Rattle.std.specs.Prelude.{ℕ, List, [], ◌∷◌}
use Rattle.std.specs.Coded.{le_prop}
use Rattle.std.proofs.Math.Nat.{ℕ_set}
use Rattle.std.specs.List.{AllZip}
use Rattle.zarrs_chunk_base.specs.DimensionEdges.{DimensionEdges, equal, listed}
use Rattle.zarrs_chunk_axes.specs.Rectangular.{AreRectangular, IsRectangular}
use Rattle.zarrs_chunk_axes.specs.Rectilinear.{AreRectilinear, IsRectilinear}

pub all_once : {A B : Type 0} (R : A → B → Type 0) → ((x : A) (y : B) → IsProp (R x y)) → (xs : List A) (ys : List B) → IsProp (AllZip R xs ys)
all_once R once [] [] = hlevel
all_once R once [] (_ ∷ _) = hlevel
all_once R once (_ ∷ _) [] = hlevel
all_once R once (x ∷ xs) (y ∷ ys) = let first = once x y in let rest = all_once R once xs ys in hlevel

rectangular_once : (size : ℕ) (edges : DimensionEdges) → IsProp (IsRectangular size edges)
rectangular_once size (equal edge) = hlevel
rectangular_once size (listed edges) = hlevel (ℕ_set)

pub are_rectangular_once : (shape : List ℕ) (edges : List DimensionEdges) → IsProp (AreRectangular shape edges)
are_rectangular_once = all_once IsRectangular rectangular_once

rectilinear_once : (size : ℕ) (edges : DimensionEdges) → IsProp (IsRectilinear size edges)
rectilinear_once size (equal edge) = hlevel
rectilinear_once size (listed edges) = hlevel (le_prop)

pub are_rectilinear_once : (shape : List ℕ) (edges : List DimensionEdges) → IsProp (AreRectilinear shape edges)
are_rectilinear_once = all_once IsRectilinear rectilinear_once
