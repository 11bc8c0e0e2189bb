-- Numbers and indices that are in bounds.
use Rattle.std.proofs.Common.{ℕ, ◌<◌, List, [], ◌∷◌, map, inr}
use Rattle.std.specs.List.{AllByRecursion, AllZip}
use Rattle.zarrs_chunk_base.specs.Dimension.{Dimension, InEach, IsChain, array_sizes}
use Rattle.zarrs_chunk_base.specs.DimensionEdges.{DimensionEdges, equal, listed}
use Rattle.zarrs_chunk_axes.specs.InBounds.{AreBelow, AreInBounds, IsInBounds, IsIndexInBounds}

-- what is below its size is in bounds
pub in_bounds_below : (sizes numbers : List ℕ) → AreBelow sizes numbers → AreInBounds sizes numbers
in_bounds_below [] [] below = tt
in_bounds_below (size ∷ sizes) (n ∷ numbers) below = (inr below.0, in_bounds_below sizes numbers below.1)
in_bounds_below _ _ below = absurd below

-- an index below the array size is in bounds, whatever the edges, since some chunk holds it
below_in_dimension : (d : Dimension) (edges : DimensionEdges) (i : ℕ) → IsChain d → i < d.array_size → IsIndexInBounds d i edges
below_in_dimension d (equal edge) i chain below = inr below
below_in_dimension d (listed edges) i chain below = let (chunk, _, holds) = chain.reaches i below in (inr below, (chunk, holds))

-- an index in bounds of a dimension is so of its array size
in_array_size : (d : Dimension) (edges : DimensionEdges) (i : ℕ) → IsIndexInBounds d i edges → IsInBounds d.array_size i
in_array_size d (equal edge) i within = within
in_array_size d (listed edges) i within = within.0

module _ {A : Type 0} (dimension : A → Dimension) (edges : A → DimensionEdges) where
  -- the index is in bounds of an axis
  abbrev pub IsAxisInBounds : ℕ → A → Type 0
  IsAxisInBounds i axis = IsIndexInBounds (dimension axis) i (edges axis)

  -- indices in bounds of each axis are in bounds of each dimension
  pub in_each_axis : (indices : List ℕ) (axes : List A) → AllZip IsAxisInBounds indices axes
      → InEach IsIndexInBounds (map dimension axes) indices (map edges axes)
  in_each_axis [] [] within = tt
  in_each_axis (i ∷ indices) (a ∷ axes) within = (within.0, in_each_axis indices axes within.1)
  in_each_axis _ _ within = absurd within

  -- and the other way round
  pub axes_in_bounds : (indices : List ℕ) (axes : List A) → InEach IsIndexInBounds (map dimension axes) indices (map edges axes)
      → AllZip IsAxisInBounds indices axes
  axes_in_bounds [] [] within = tt
  axes_in_bounds (i ∷ indices) (a ∷ axes) within = (within.0, axes_in_bounds indices axes within.1)
  axes_in_bounds _ _ within = absurd within

  -- and they are in bounds of each array size
  pub each_in_bounds : (indices : List ℕ) (axes : List A) → AllZip IsAxisInBounds indices axes
      → AreInBounds (array_sizes (map dimension axes)) indices
  each_in_bounds [] [] within = tt
  each_in_bounds (i ∷ indices) (a ∷ axes) within = (in_array_size (dimension a) (edges a) i within.0, each_in_bounds indices axes within.1)
  each_in_bounds _ _ within = absurd within

  -- indices below the array sizes are in bounds of each axis
  pub below_in_bounds : (indices : List ℕ) (axes : List A) → AllByRecursion IsChain (map dimension axes)
      → AreBelow (array_sizes (map dimension axes)) indices → AllZip IsAxisInBounds indices axes
  below_in_bounds [] [] chains below = tt
  below_in_bounds (i ∷ indices) (a ∷ axes) chains below =
      (below_in_dimension (dimension a) (edges a) i chains.0 below.0, below_in_bounds indices axes chains.1 below.1)
  below_in_bounds _ _ chains below = absurd below
