-- What trees of JSON stand for: sizes, edges, texts, and lists of them; and which trees they are written as. A tree is what
-- `serde_json` reads a text as; a whole number from 0 to 18446744073709551615 is `unsigned` there, and `10.0` is a float.
use Rattle.std.specs.Prelude.{◌≡◌, ℕ, ◌==◌, IsUtf8, if◌then◌else◌, List, [], ◌∷◌, map, Option, Some, None, option_map, option_and_then}
use Rattle.std.specs.Option.{option_or}
use Rattle.serde_json.specs.Data.{Data, number, unsigned, array, Items, no_items, item}
use Rattle.serde_json.specs.Find.{as_number, as_u64, as_array}
use Rattle.serde_json.specs.Read.{read}
use Rattle.serde_json.specs.View.{items_of}

-- the tree that a text is the JSON of
abbrev pub IsJsonOf : List ℕ → Data → Type 0
IsJsonOf text tree = IsUtf8 text × (read text ≡ Some tree)

-- a whole number, as the reader keeps one: from 0 to the greatest u64
abbrev pub size_of : Data → Option ℕ
size_of d = option_and_then as_u64 (as_number d)

-- a size that isn't 0
abbrev pub edge_of : Data → Option ℕ
edge_of d = option_and_then (λ n. if n == 0 then None else Some n) (size_of d)

-- the items, each of the form
abbrev pub each_of : {X : Type 0} → (Data → Option X) → Items → Option (List X)
each_of form no_items = Some []
each_of form (item d ds) = option_and_then (λ x. option_map (λ xs. x ∷ xs) (each_of form ds)) (form d)

-- a list, each item of the form
abbrev pub list_of : {X : Type 0} → (Data → Option X) → Data → Option (List X)
list_of form d = option_and_then (each_of form) (as_array d)

-- exactly two items, each of the form
abbrev pub both_of : {X : Type 0} → (Data → Option X) → Items → Option (X × X)
both_of form no_items = None
both_of form (item d no_items) = None
both_of form (item d (item e no_items)) = option_and_then (λ x. option_map (λ y. (x, y)) (form e)) (form d)
both_of form (item d (item e (item _ _))) = None

-- a list of exactly two items, each of the form
abbrev pub pair_of : {X : Type 0} → (Data → Option X) → Data → Option (X × X)
pair_of form d = option_and_then (both_of form) (as_array d)

-- an edge, or else what is of another form
abbrev pub edge_or : {X Y : Type 0} → (ℕ → Y) → (X → Y) → (Data → Option X) → Data → Option Y
edge_or edge other form d = option_or (option_map edge (edge_of d)) (option_map other (form d))

-- ---- how they are written

-- a size or an edge as a number
abbrev pub size_tree : ℕ → Data
size_tree n = number (unsigned n)

-- a list, each item written alike
abbrev pub list_tree : {X : Type 0} → (X → Data) → List X → Data
list_tree tree xs = array (items_of (map tree xs))
