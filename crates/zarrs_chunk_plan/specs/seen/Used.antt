-- Which chunks hold elements of the array along one dimension, and which of them a resize keeps.
use Rattle.std.specs.Prelude.{◌≡◌, ◌↔◌, ◌+◌, ◌-◌, ◌<◌, ◌≤◌, ℕ, IsTrue, List, min}
use Rattle.zarrs_chunk_base.specs.Dimension.{Dimension, HasEdge, Holds}
use Rattle.zarrs_chunk_base.specs.Greatest.{greatest}
use Rattle.zarrs_chunk_axes.specs.Along.{Along}
use Rattle.zarrs_chunk_plan.specs.Resize.{IsResized}

-- the chunk holds an element of the array
abbrev pub HoldsSome : Dimension → ℕ → Type 0
HoldsSome d c = IsTrue (d.has_chunk c) × (d.start c < d.end c) × (d.start c < d.array_size)

-- the first `used` chunks, and no others, hold an element of the array, if there are any
abbrev pub UsesFirst : Dimension → ℕ → Type 0
UsesFirst d used = 0 < used → (c : ℕ) → c < used ↔ HoldsSome d c

-- the chunks from `first` up to `last` hold `size` elements of the array, those from `start` on
pub record IsHeldRange (d : Dimension) (first last start size : ℕ) : Type 0 where
  pub are : (i : ℕ) → ((start ≤ i) × (i < start + size)) ↔ ((i < d.array_size) × ((c : ℕ) × (first ≤ c) × (c ≤ last) × Holds d c i))
  pub some : 0 < size
  pub fits : start + size ≤ greatest

-- the chunk holds elements of both arrays, begins and ends where it did, and so do the elements that it holds
pub record KeptAlong (before after : Dimension) (c : ℕ) : Type 0 where
  pub some : HoldsSome before c
  pub some_after : HoldsSome after c
  pub start : before.start c ≡ after.start c
  pub end : before.end c ≡ after.end c
  pub last : min (before.end c) before.array_size ≡ min (after.end c) after.array_size

-- the chunk is as long as the first number says, and holds as many elements of the array as the second one
pub record HasExtent (d : Dimension) (c : ℕ) (extent : ℕ × ℕ) : Type 0 where
  pub edge : HasEdge d c extent.0
  pub held : min (d.end c) d.array_size - d.start c ≡ extent.1

-- and so along the dimension of this number
abbrev pub HasExtentAlong : List Dimension → (dimension c : ℕ) → ℕ × ℕ → Type 0
HasExtentAlong ds dimension c extent = Along (λ d. HasExtent d c extent) ds dimension

-- if so many chunks hold elements of both arrays, so many of them are kept
abbrev pub Keeps : (both kept : ℕ) → Dimension → Dimension → Type 0
Keeps both kept before after =
    IsResized before after → ((c : ℕ) → c < both → HoldsSome before c × HoldsSome after c)
    → (c : ℕ) → c < kept ↔ ((c < both) × KeptAlong before after c)

-- and so along the dimension of this number
abbrev pub KeepsAlong : (before after : List Dimension) → (dimension both kept : ℕ) → Type 0
KeepsAlong before after dimension both kept = Along (λ d. Along (Keeps both kept d) after dimension) before dimension
