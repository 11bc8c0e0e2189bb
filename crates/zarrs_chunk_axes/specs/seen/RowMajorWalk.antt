-- Where a walk through the lists below a shape stands, and what is left of it.
use Rattle.std.specs.Prelude.{◌≡◌, ℕ, ◌<◌, Bool, true, false, List, [], ◌∷◌, ◌++◌, length}
use Rattle.std.specs.Cow.{cow_slice_items}
use Rattle.std.specs.List.{AllByRecursion}
use Rattle.zarrs_chunk_axes.specs.declared.row_major_walk.RowMajorWalk.{RowMajorWalk}
use Rattle.zarrs_chunk_axes.specs.declared.row_major_walk.turn.Turn.{Turn}
use Rattle.zarrs_chunk_axes.specs.declared.row_major_walk.turn.Turn.TheVariants.{First, Next, Over}
use Rattle.zarrs_chunk_axes.specs.InBounds.{AreBelow}
use Rattle.zarrs_chunk_axes.specs.RowMajor.{row_major}
use Rattle.zarrs_chunk_axes.specs.seen.Counting.{AreAtLeast, after}

-- the shape below which the lists are
abbrev pub shape_of : RowMajorWalk → List ℕ
shape_of walk = cow_slice_items walk.shape

-- the list at which the walk stands, if it does at one
abbrev pub numbers_at : RowMajorWalk → List ℕ
numbers_at walk = walk.numbers.items

-- it stands at one, which is below the shape
pub record IsAtList (walk : RowMajorWalk) : Type 0 where
  pub next : walk.turn ≡ Next
  pub below : AreBelow (shape_of walk) (numbers_at walk)

-- the lists that are still to come, by what the next step does
abbrev pub left_at : Turn → List ℕ → List ℕ → List (List ℕ)
left_at First shape numbers = row_major shape
left_at Next shape numbers = after shape numbers
left_at Over shape numbers = []

abbrev pub lists_left : RowMajorWalk → List (List ℕ)
lists_left walk = left_at walk.turn (shape_of walk) (numbers_at walk)

-- the list at which the walk stands, and those to come; or none, where it has ended
abbrev pub lists_from : Bool → RowMajorWalk → List (List ℕ)
lists_from true walk = numbers_at walk ∷ lists_left walk
lists_from false walk = []

-- the walk stands at a list, or it has ended
abbrev pub Stands : Bool → RowMajorWalk → Type 0
Stands true walk = IsAtList walk
Stands false walk = lists_left walk ≡ []

-- The lists that a walk passes over: they begin with the one at which it stood, and have no number below those of that one.
pub record IsPassing (old : RowMajorWalk) (found : Bool) (new : RowMajorWalk) (passed : List (List ℕ)) : Type 0 where
  pub all : numbers_at old ∷ lists_left old ≡ passed ++ lists_from found new
  pub at_least : AllByRecursion (AreAtLeast (numbers_at old)) passed
  pub some : 0 < length passed
