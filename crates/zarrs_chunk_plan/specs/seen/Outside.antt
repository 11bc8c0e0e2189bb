-- Chunks that are below one list of numbers and not below another.
use Rattle.std.specs.Prelude.{◌≢◌, ◌⊎◌, ℕ, Bool, IsTrue, List, map, min}
use Rattle.std.specs.List.{AllPairs, flat_map, zip}
use Rattle.zarrs_chunk_base.specs.ArraySubset.{Box}
use Rattle.zarrs_chunk_axes.specs.InBounds.{AreBelow}
use Rattle.zarrs_chunks.specs.Walks.{chunks_in}

-- the chunks in some boxes, one box after another
abbrev pub chunks_of_boxes : List Box → List (List ℕ)
chunks_of_boxes = flat_map chunks_in

-- no chunk stands twice in the list
abbrev pub AreOnce : List (List ℕ) → Type 0
AreOnce = AllPairs (λ one other. one ≢ other)

-- the chunk is below the outer numbers and not below the inner ones
abbrev pub IsOutside : (inner outer chunk : List ℕ) → Type 0
IsOutside inner outer chunk = AreBelow outer chunk × (¬ AreBelow inner chunk)

-- the lesser of each two numbers
abbrev pub pairwise_min : List ℕ → List ℕ → List ℕ
pairwise_min one other = map (λ p. min p.0 p.1) (zip one other)

-- the chunk is below the numbers, and not below those of the chunks that are kept, unless these are wanted
abbrev pub IsToldBefore : (include_unchanged : Bool) (before kept chunk : List ℕ) → Type 0
IsToldBefore include_unchanged before kept chunk = AreBelow before chunk × (IsTrue include_unchanged ⊎ (¬ AreBelow kept chunk))
