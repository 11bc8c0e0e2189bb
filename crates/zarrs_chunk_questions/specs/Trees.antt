-- The trees that answers are written as, and what a question's trees and lists stand for.
-- Sources: Zarr V3 core, chunk grids and chunk key encodings; the forms of the answers are this library's own.
use Rattle.std.specs.Prelude.{◌≡◌, ℕ, List, [], ◌∷◌, Option, Result, Ok}
use Rattle.std.specs.Option.{option_map_or}
use Rattle.serde_json.specs.Data.{Data, null}
use Rattle.zarrs_chunk_base.specs.ArraySubset.{Box}
use Rattle.zarrs_chunk_base.specs.Json.{list_tree, size_tree}
use Rattle.zarrs_chunk_questions.specs.Question.{Lists}

-- ---- the forms

abbrev pub numbers_tree : List ℕ → Data
numbers_tree = list_tree size_tree

-- a box: its start and its shape
abbrev pub box_tree : Box → Data
box_tree b = list_tree numbers_tree (b.start ∷ b.shape ∷ [])

-- null, where there is nothing
abbrev pub or_null : {X : Type 0} → (X → Data) → Option X → Data
or_null tree answer = option_map_or tree answer null

-- The tree says an answer that the call may give.
abbrev pub Says : {X E : Type 0} → (X → Data) → (Result (Option X) E → Type 0) → Data → Type 0
Says {X} tree MayAnswer t = (answer : Option X) × MayAnswer (Ok answer) × (t ≡ or_null tree answer)

-- ---- what is made of lists

-- the box of a start and a shape
abbrev pub box_of : Lists → Box
box_of lists = record { start = lists.0; shape = lists.1 }
