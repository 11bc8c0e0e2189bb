-- The dimensions of a chunk grid, and the boxes that its chunks take up.
-- Sources: Zarr V3 core, chunk grids and the regular grid; ZEP 3, variable chunks.
use Rattle.std.specs.Prelude.{◌≡◌, ℕ, ◌+◌, ◌<◌, ◌≤◌, Bool, IsTrue, List, [], ◌∷◌, map}

-- One dimension: which whole numbers are chunks, and for each the first index that lies in it and
-- the first one after.
pub record Dimension : Type 0 where
  -- how many elements the array has
  pub array_size : ℕ
  -- how many chunks are counted
  pub grid_size : ℕ
  pub has_chunk : ℕ → Bool
  pub start : ℕ → ℕ
  pub end : ℕ → ℕ

-- the index i lies in chunk c
pub record Holds (d : Dimension) (c i : ℕ) : Type 0 where
  pub chunk : IsTrue (d.has_chunk c)
  pub from : d.start c ≤ i
  pub below : i < d.end c

-- chunk c starts at o
pub record StartsAt (d : Dimension) (c o : ℕ) : Type 0 where
  pub chunk : IsTrue (d.has_chunk c)
  pub start : d.start c ≡ o

-- chunk c ends at e
pub record EndsAt (d : Dimension) (c e : ℕ) : Type 0 where
  pub chunk : IsTrue (d.has_chunk c)
  pub end : d.end c ≡ e

-- chunk c is s elements long
pub record HasEdge (d : Dimension) (c s : ℕ) : Type 0 where
  pub chunk : IsTrue (d.has_chunk c)
  pub edge : d.start c + s ≡ d.end c

-- The chunks follow one another without a gap, the first from 0 on. None is empty. All that are counted are
-- there, and the array lies within them.
pub record IsChain (d : Dimension) : Type 0 where
  pub from_zero : IsTrue (d.has_chunk 0) → d.start 0 ≡ 0
  pub not_empty : (c : ℕ) → IsTrue (d.has_chunk c) → d.start c < d.end c
  pub no_gap : (c : ℕ) → IsTrue (d.has_chunk (c + 1)) → IsTrue (d.has_chunk c) × (d.start (c + 1) ≡ d.end c)
  pub counted : (c : ℕ) → c < d.grid_size → IsTrue (d.has_chunk c)
  pub reaches : (i : ℕ) → i < d.array_size → (c : ℕ) × (c < d.grid_size) × Holds d c i

-- how many elements the array has along each dimension: the array shape
abbrev pub array_sizes : List Dimension → List ℕ
array_sizes = map (λ d. d.array_size)

-- how many chunks are counted along each dimension: the grid shape
abbrev pub grid_sizes : List Dimension → List ℕ
grid_sizes = map (λ d. d.grid_size)

-- the list names a chunk: each number is one of its dimension
abbrev pub IsChunk : List Dimension → List ℕ → Type 0
IsChunk [] [] = Unit {0}
IsChunk (d ∷ ds) (c ∷ chunk) = IsTrue (d.has_chunk c) × IsChunk ds chunk
IsChunk _ _ = ⊥

-- what a dimension, a number and a value are to each other holds in each dimension
abbrev pub InEach : {X : Type 0} → (Dimension → ℕ → X → Type 0) → List Dimension → List ℕ → List X → Type 0
InEach R [] [] [] = Unit {0}
InEach R (d ∷ ds) (c ∷ chunk) (x ∷ xs) = R d c x × InEach R ds chunk xs
InEach R _ _ _ = ⊥

-- the index lies in the box of the chunk: in each dimension in the chunk of that dimension
abbrev pub InBox : List Dimension → List ℕ → List ℕ → Type 0
InBox = InEach Holds

-- the chunk's origin: in each dimension where its chunk starts
abbrev pub IsOrigin : List Dimension → List ℕ → List ℕ → Type 0
IsOrigin = InEach StartsAt

-- the chunk's end: in each dimension where its chunk ends
abbrev pub IsEnd : List Dimension → List ℕ → List ℕ → Type 0
IsEnd = InEach EndsAt

-- the chunk's shape: in each dimension how long its chunk is
abbrev pub IsShape : List Dimension → List ℕ → List ℕ → Type 0
IsShape = InEach HasEdge

-- the index's place in the chunk: in each dimension what is left of the index after the chunk's start
abbrev pub IsPlace : List Dimension → List ℕ → List ℕ → List ℕ → Type 0
IsPlace [] [] [] [] = Unit {0}
IsPlace (d ∷ ds) (c ∷ chunk) (i ∷ index) (p ∷ place) = (d.start c + p ≡ i) × IsPlace ds chunk index place
IsPlace _ _ _ _ = ⊥
