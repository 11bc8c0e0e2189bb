-- The edges that are tried for the chunks of an intermediate array. A region of the source's array goes to a box of the same shape in the target's array. The
-- intermediate array has this shape, too, and chunks of one shape.
-- Source: this library's own.
use Rattle.std.specs.Prelude.{◌≡◌, ℕ, ◌+◌, ◌-◌, ◌*◌, ◌/◌, ◌<◌, ◌≤◌, ◌⊎◌, List, [], ◌∷◌, fold, map, max, min}
use Rattle.std.specs.List.{AllByRecursion, range_with_len}
use Rattle.zarrs_chunk_base.specs.ArraySubset.{Box}
use Rattle.zarrs_chunk_base.specs.Dimension.{Dimension}
use Rattle.zarrs_chunk_parts.specs.Plan.{Covers}
use Rattle.zarrs_chunk_plan.specs.Counts.{product}
use Rattle.zarrs_chunk_plan.specs.Region.{moved}

-- a division, rounded up
abbrev pub rounded_up : (n k : ℕ) → ℕ
rounded_up n k = (n + (k - 1)) / k

-- An edge that is tried. The dimension is cut into units of `unit` elements. The edge is the least whole number of units that makes at most `pieces` pieces, cut
-- to the size.
pub record IsTriedEdge (size unit edge : ℕ) : Type 0 where
  pub pieces : ℕ
  pub some : 0 < pieces
  pub edge_is : edge ≡ min size (unit * rounded_up (rounded_up size unit) pieces)

-- how long the longest of `many` chunks is, from `first` on; 0 without chunks
abbrev pub longest_from : Dimension → (first many : ℕ) → ℕ
longest_from d first many = fold max 0 (map (λ c. d.end c - d.start c) (range_with_len first many))

-- the same along each dimension
abbrev pub longest_of_each : List Dimension → (first many : List ℕ) → List ℕ
longest_of_each (d ∷ ds) (c ∷ first) (n ∷ many) = longest_from d c n ∷ longest_of_each ds first many
longest_of_each _ _ _ = []

-- the longest edge along each dimension, of the chunks that hold some of a box
pub record AreLongest (ds : List Dimension) (b : Box) (edges : List ℕ) : Type 0 where
  pub cover : Box
  pub is_cover : Covers ds b cover
  pub are_longest : edges ≡ longest_of_each ds cover.start cover.shape

-- each edge is tried by the longest chunk of the source, or by the longest one of the target, cut to the size
abbrev pub AreTriedEdges : (sizes read written edges : List ℕ) → Type 0
AreTriedEdges [] [] [] [] = Unit {0}
AreTriedEdges (n ∷ sizes) (r ∷ read) (w ∷ written) (edge ∷ edges) =
    (IsTriedEdge n (min r n) edge ⊎ IsTriedEdge n (min w n) edge) × AreTriedEdges sizes read written edges
AreTriedEdges _ _ _ _ = ⊥

-- into how many pieces edges cut the dimensions of these sizes, each edge cut to the size
abbrev pub pieces_by : (sizes edges : List ℕ) → List ℕ
pieces_by (n ∷ sizes) (edge ∷ edges) = rounded_up n (min edge n) ∷ pieces_by sizes edges
pieces_by _ _ = []

-- the sum of two numbers along each dimension
abbrev pub sums : List ℕ → List ℕ → List ℕ
sums (m ∷ ms) (n ∷ ns) = (m + n) ∷ sums ms ns
sums _ _ = []

-- if no more pieces than this are along a dimension, each edge is tried
abbrev pub most_pieces : ℕ
most_pieces = 65536

-- if there are no more shapes than this, each shape is tried
abbrev pub most_shapes : ℕ
most_shapes = 131072

-- a region of the source's array is copied to the target's, from `at` on
module _ (source target : List Dimension) (region : Box) (at : List ℕ) where
  -- a shape that is tried
  pub record IsTriedShape (shape : List ℕ) : Type 0 where
    pub read : List ℕ
    pub is_read : AreLongest source region read
    pub written : List ℕ
    pub is_written : AreLongest target (moved at region) written
    pub edges : AreTriedEdges region.shape read written shape

  -- Along each dimension the longest chunk of the source cuts the region into at most 2^16 pieces, and so does the longest one of the target. The sum of both
  -- numbers is taken along each dimension, and the product of these sums is at most 2^17.
  pub record AreFewPieces : Type 0 where
    pub read : List ℕ
    pub is_read : AreLongest source region read
    pub written : List ℕ
    pub is_written : AreLongest target (moved at region) written
    pub few_read : AllByRecursion (λ n. n ≤ most_pieces) (pieces_by region.shape read)
    pub few_written : AllByRecursion (λ n. n ≤ most_pieces) (pieces_by region.shape written)
    pub few_together : product (sums (pieces_by region.shape read) (pieces_by region.shape written)) ≤ most_shapes
