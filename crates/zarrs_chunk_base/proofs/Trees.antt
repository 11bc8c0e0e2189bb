-- Lists of values and the trees that they are written as.
use Rattle.std.proofs.Common.{◌≡◌, ◌≢◌, List, [], ◌∷◌, ◌++◌, length, Option, None, Some, map, refl}
use Rattle.std.specs.List.{AllZip}
use Rattle.serde_json.specs.Data.{Data}
use Rattle.serde_json.specs.View.{items_of, items_view, view}
use Rattle.serde_json.specs.declared.value.Value.{Value}
use Rattle.zarrs_chunk_base.specs.Json.{both_of, each_of}

module _ {A X : Type 0} (seen : A → X) (form : Data → Option X) (written : X → Data) where
  -- the tree is that of the value, and stands for it
  abbrev pub IsTreeOf : Value → A → Type 0
  IsTreeOf tree value = (view tree ≡ written (seen value)) × (form (view tree) ≡ Some (seen value))

  -- one more
  pub one_more : (trees : List Value) (values : List A) (tree : Value) (value : A) → AllZip IsTreeOf trees values → IsTreeOf tree value
      → AllZip IsTreeOf (trees ++ tree ∷ []) (values ++ value ∷ [])
  one_more [] [] tree value h here = (here, tt)
  one_more (t ∷ trees) (x ∷ values) tree value h here = (h.0, one_more trees values tree value h.1 here)
  one_more _ _ tree value h here = absurd h

  -- so the trees of a list are those of its values
  pub items_are : (trees : List Value) (values : List A) → AllZip IsTreeOf trees values → items_view trees ≡ items_of (map written (map seen values))
  items_are [] [] h = refl
  items_are (t ∷ trees) (x ∷ values) h = let first = h.0.0 in let rest = items_are trees values h.1 in cc
  items_are _ _ h = absurd h

  -- and stand for them
  pub items_stand_for : (trees : List Value) (values : List A) → AllZip IsTreeOf trees values
      → each_of form (items_view trees) ≡ Some (map seen values)
  items_stand_for [] [] h = refl
  items_stand_for (t ∷ trees) (x ∷ values) h = rw (h.0.1, items_stand_for trees values h.1) refl
  items_stand_for _ _ h = absurd h

-- a list of another length is no pair
pub no_pair : {X : Type 0} (form : Data → Option X) (trees : List Value) → length trees ≢ 2 → None ≡ both_of form (items_view trees)
no_pair form [] other = refl
no_pair form (t ∷ []) other = refl
no_pair form (t ∷ u ∷ []) other = absurd (other refl)
no_pair form (t ∷ u ∷ v ∷ trees) other = refl
