-- A bounded dimension, and the list of its edges.
use Rattle.std.specs.Prelude.{◌≡◌, ℕ, ◌+◌, ◌*◌, ◌<◌, ◌≤◌, List, [], ◌∷◌, ◌++◌, replicate}
use Rattle.zarrs_chunk_base.specs.Dimension.{Dimension, InEach}
use Rattle.zarrs_chunk_axes.specs.Listed.{IsListed}

-- the edges of a bounded dimension of non-zero size: whole edges, and what is left of the size
pub record AreClipped (size edge : ℕ) (edges : List ℕ) : Type 0 where
  pub whole_edges : ℕ
  pub rest : ℕ
  pub some : 0 < rest
  pub at_most : rest ≤ edge
  pub size_is : size ≡ whole_edges * edge + rest
  pub edges_are : edges ≡ replicate whole_edges edge ++ rest ∷ []

-- a dimension of these edges, listed
pub record IsClippedList (d : Dimension) (size edge : ℕ) : Type 0 where
  pub edges : List ℕ
  pub clipped : AreClipped size edge edges
  pub listed : IsListed d size edges

-- the dimensions of an array shape and a chunk shape, each of its clipped edges
abbrev pub AreClippedLists : List Dimension → List ℕ → List ℕ → Type 0
AreClippedLists = InEach IsClippedList
