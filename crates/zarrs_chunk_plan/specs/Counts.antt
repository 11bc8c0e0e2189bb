-- How much a read takes. Each count is a product of numbers that are found without a walk over the plan.
-- Source: this library's own.
use Rattle.std.specs.Prelude.{◌≡◌, ◌≢◌, ◌↔◌, ◌*◌, ℕ, List, [], ◌∷◌, length}
use Rattle.std.specs.List.{AllPairs, Contains}
use Rattle.zarrs_chunk_base.specs.ArraySubset.{Box}
use Rattle.zarrs_chunk_parts.specs.Plan.{HasElement}
use Rattle.zarrs_chunk_plan.specs.declared.counts.ReadCounts.{ReadCounts}
use Rattle.zarrs_chunk_parts.specs.declared.part.Part.{Part}

-- so many lists of numbers have a property: they are those of one list, in which none stands twice
pub record AreMany (P : List ℕ → Type 0) (many : ℕ) : Type 0 where
  pub members : List (List ℕ)
  pub once : AllPairs (λ one other. one ≢ other) members
  pub are_those : (numbers : List ℕ) → Contains members numbers ↔ P numbers
  pub as_many : length members ≡ many

-- the count that a list of numbers stands for
abbrev pub product : List ℕ → ℕ
product [] = 1
product (n ∷ numbers) = n * product numbers

-- The counts of a read of a box of elements, of which these are the parts. Each part is of a chunk that is read.
pub record AreReadCounts (subset : Box) (parts : List Part) (counts : ReadCounts) : Type 0 where
  pub chunks_read : product counts.chunks_read.items ≡ length parts
  pub elements_moved : AreMany (λ index. (part : Part) × Contains parts part × ((place : List ℕ) × HasElement subset part index place))
      (product counts.elements_moved.items)
