-- What a walk gives, as a tree.
use Rattle.std.specs.Prelude.{◌≡◌, ℕ, ◌≤◌, List, [], ◌∷◌, length, take, Option, Some, None}
use Rattle.serde_json.specs.Data.{Data, array}
use Rattle.serde_json.specs.View.{items_of, view}
use Rattle.serde_json.specs.declared.value.Value.{Value}
use Rattle.zarrs_chunk_base.specs.ArraySubset.{Box}
use Rattle.zarrs_chunk_base.specs.Dimension.{Dimension}
use Rattle.zarrs_chunks.specs.Walks.{box_at, boxed}
use Rattle.zarrs_chunk_questions.specs.Pages.{first_page, item_trees}
use Rattle.zarrs_chunk_questions.specs.Trees.{box_tree, numbers_tree}
use Rattle.zarrs_chunk_questions.specs.declared.call.WalkOf.{WalkOf}
use Rattle.zarrs_chunk_questions.specs.declared.call.WalkOf.TheVariants.{Boxes, Chunks, ChunksAndBoxes}

-- a chunk's numbers and its box
abbrev pub both_trees : List ℕ × Box → Data
both_trees both = array (items_of (numbers_tree both.0 ∷ box_tree both.1 ∷ []))

-- the box of a chunk; none where it has none
abbrev pub IsBoxOf : List Dimension → List ℕ → Option Value → Type 0
IsBoxOf ds chunk (Some tree) = (boxed ds (chunk ∷ []) ≡ chunk ∷ []) × (view tree ≡ box_tree (box_at ds chunk))
IsBoxOf ds chunk None = boxed ds (chunk ∷ []) ≡ []

-- how many lists of numbers an item has
abbrev pub lists_in : WalkOf → ℕ
lists_in Chunks = 1
lists_in Boxes = 2
lists_in ChunksAndBoxes = 3

-- what the walk gives of a chunk; none where it gives boxes, and the chunk has none
abbrev pub IsItemOf : WalkOf → List Dimension → List ℕ → Option Value → Type 0
IsItemOf walk ds chunk (Some item) = item_trees walk ds (chunk ∷ []) ≡ view item ∷ []
IsItemOf walk ds chunk None = item_trees walk ds (chunk ∷ []) ≡ []

-- the page of the first items; or none, where so many are too many
abbrev pub IsFirstPage : (most too_many : ℕ) → List Data → Option Value → Type 0
IsFirstPage most too_many items (Some tree) = view tree ≡ first_page most items
IsFirstPage most too_many items None = too_many ≤ length (take most items)

-- the first of the trees that were left, and the others are left then; or none, where none was left
abbrev pub GivesTree : (before after : List Data) → Option Value → Type 0
GivesTree before after (Some tree) = before ≡ view tree ∷ after
GivesTree before after None = before ≡ []
