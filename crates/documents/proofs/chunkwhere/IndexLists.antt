-- Trees that are lists of sizes, one after another.
use Rattle.std.proofs.Common.{◌≡◌, ℕ, zero, suc, ◌+◌, ◌<◌, ◌≤◌, false, List, [], ◌∷◌, IsSome, is_some, Option, None, Some, length, take, get_or}
use Rattle.std.proofs.Common.{option_and_then, option_map, unwrap_or, Vec, Global, codes, refl, sym, ap, subst, ◌∙◌, arith}
use Rattle.std.proofs.lemmas.List.Elements.{All-from_recursion, All-more, recursion_from_All}
use Rattle.std.specs.List.{AllByRecursion}
use Rattle.serde_json.specs.Data.{Data}
use Rattle.serde_json.specs.Find.{get}
use Rattle.serde_json.specs.View.{items_view, view}
use Rattle.serde_json.specs.declared.value.Value.{Value, Array}
use Rattle.serde_json.proofs.Views.{view-Array}
use Rattle.documents.specs.chunkwhere.Document.{indices_in, lists_in}
use Rattle.zarrs_chunk_base.specs.Json.{each_of, list_of, size_of}

-- the tree is a list of sizes
abbrev pub IsIndexList : Value → Type 0
IsIndexList tree = IsSome (list_of size_of (view tree))

pub one_more : (trees : List Value) (i : ℕ) (tree : Value) → i < length trees → tree ≡ get_or trees i tree → IsIndexList tree
    → AllByRecursion IsIndexList (take i trees) → AllByRecursion IsIndexList (take (i + 1) trees)
one_more trees i tree within at is so_far =
    recursion_from_All IsIndexList (take (i + 1) trees)
    (All-more IsIndexList trees i tree within (All-from_recursion IsIndexList (take i trees) so_far) (subst IsIndexList at is))

-- what is there is what it is
present : (o : Option (List ℕ)) → IsSome o → o ≡ Some (unwrap_or o [])
present (Some x) some = refl
present None some = cc

pub no_list : (o : Option (List ℕ)) → is_some o ≡ false → o ≡ None
no_list (Some x) none = cc
no_list None none = refl

-- where all are, the lists are those of the sizes
pub all_are : (trees : List Value) (i : ℕ) → length trees ≤ i → AllByRecursion IsIndexList (take i trees)
    → each_of (list_of size_of) (items_view trees) ≡ Some (lists_in trees)
all_are [] i past so_far = refl
all_are (t ∷ trees) zero past so_far = absurd (omega arith)
all_are (t ∷ trees) (suc i) past so_far =
    let here = present (list_of size_of (view t)) so_far.0 in
    let rest = all_are trees i (omega arith) so_far.1 in
    rw (here, rest) refl

-- where one isn't, there are none
pub one_is_not : (trees : List Value) (i : ℕ) (tree : Value) → i < length trees → tree ≡ get_or trees i tree → list_of size_of (view tree) ≡ None
    → each_of (list_of size_of) (items_view trees) ≡ None
one_is_not [] i tree within at none = absurd (omega arith)
one_is_not (t ∷ trees) zero tree within at none = rw (← at, none) refl
one_is_not (t ∷ trees) (suc i) tree within at none = after_first (list_of size_of (view t)) (one_is_not trees i tree (omega arith) at none) where
  after_first : (o : Option (List ℕ)) → each_of (list_of size_of) (items_view trees) ≡ None
      → option_and_then (λ x. option_map (λ xs. x ∷ xs) (each_of (list_of size_of) (items_view trees))) o ≡ None
  after_first None none = refl
  after_first (Some x) none = rw none refl

-- the index lists of a document whose member is a list of trees
pub indices_are : (d : Data) (member : Value) (trees : Vec Value Global) → Some (view member) ≡ get (codes "indices") d → Array trees ≡ member
    → indices_in d ≡ each_of (list_of size_of) (items_view trees.items)
indices_are d member trees there is =
    ap (option_and_then (list_of (list_of size_of))) (sym there) ∙ ap (λ v. list_of (list_of size_of) (view v)) (sym is)
    ∙ ap (list_of (list_of size_of)) (view-Array trees)
