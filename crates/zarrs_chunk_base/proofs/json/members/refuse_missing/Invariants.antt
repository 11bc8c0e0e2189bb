use Rattle.std.proofs.Common.{◌≡◌, ℕ, List, None, IsSome, drop, map}
use Rattle.std.specs.List.{AllByRecursion}
use Rattle.serde_json.specs.Find.{get_member}
use Rattle.serde_json.specs.View.{members_view}
use Rattle.zarrs_chunk_base.specs.First.{IsFirst}
use Rattle.zarrs_chunk_base.proofs.json.members.refuse_missing.Given as goal

-- The first that is missing of the names that are left is the first of all; and where none of those is missing, none of all is.
abbrev pub invariant-loop-field : goal.invariant-loop-field
invariant-loop-field l =
    let members = members_view l.members.entries in
    let is_missing = λ (name : List ℕ). get_member name members ≡ None in
    let left = drop l.field-index l.required in
    ((name : List ℕ) → IsFirst is_missing (map (λ n. n.now) left) name → IsFirst is_missing (map (λ n. n.now) l.required) name)
    × (AllByRecursion (λ name. IsSome (get_member name members)) (map (λ n. n.now) left)
    → AllByRecursion (λ name. IsSome (get_member name members)) (map (λ n. n.now) l.required))
