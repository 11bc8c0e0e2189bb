-- Which members of a document go together.
-- Source: this program's own.
use Rattle.std.specs.Prelude.{◌&&◌, ◌∷◌, ◌++◌}
use Rattle.programs.specs.chunkplan.Common.{ℕ, Bool, not, IsFalse, List, [], codes, is_some, map, AllByRecursion, Data, get}
use Rattle.programs.specs.declared.chunkplan.member_rules.MemberRule.{MemberRule}
use Rattle.programs.specs.declared.chunkplan.member_rules.MemberRule.TheVariants.{Excludes, Needs}

-- What a member asks of another one: it isn't given without that, or it isn't given beside that.
pub data Rule : Type 0 where
  needs : (member other : List ℕ) → Rule
  excludes : (member other : List ℕ) → Rule

-- a rule of the program
abbrev pub rule_of : MemberRule → Rule
rule_of (Needs member other) = needs member.now other.now
rule_of (Excludes member other) = excludes member.now other.now

-- all rules, in the order in which a broken one is told
abbrev pub rules : List Rule
rules =
    map (excludes (codes "resize"))
    (codes "target" ∷ codes "subset" ∷ codes "clip" ∷ codes "chunks" ∷ codes "at" ∷ codes "share" ∷ codes "counts" ∷ codes "keys" ∷ codes "order"
    ∷ codes "item_size" ∷ codes "memory_order" ∷ codes "max_ranges" ∷ codes "task_chunks" ∷ codes "max_elements"
    ∷ codes "read_elements" ∷ codes "stage" ∷ [])
    ++ needs (codes "include_unchanged") (codes "resize")
    ∷ needs (codes "chunks") (codes "target")
    ∷ needs (codes "at") (codes "target")
    ∷ excludes (codes "clip") (codes "target")
    ∷ needs (codes "at") (codes "subset")
    ∷ excludes (codes "chunks") (codes "subset")
    ∷ needs (codes "keys") (codes "target")
    ∷ excludes (codes "keys") (codes "counts")
    ∷ needs (codes "order") (codes "target")
    ∷ map (excludes (codes "item_size")) (codes "target" ∷ codes "counts" ∷ [])
    ++ needs (codes "memory_order") (codes "item_size")
    ∷ needs (codes "max_ranges") (codes "item_size")
    ∷ needs (codes "task_chunks") (codes "target")
    ∷ excludes (codes "task_chunks") (codes "max_elements")
    ∷ needs (codes "max_elements") (codes "target")
    ∷ excludes (codes "max_elements") (codes "order")
    ∷ needs (codes "read_elements") (codes "max_elements")
    ∷ needs (codes "stage") (codes "max_elements")
    ∷ excludes (codes "stage") (codes "counts")
    ∷ excludes (codes "share") (codes "counts")
    ∷ []

-- the document has the first member, and not the second; or it has both
abbrev pub is_broken : Data → Rule → Bool
is_broken d (needs member other) = is_some (get member d) && not (is_some (get other d))
is_broken d (excludes member other) = is_some (get member d) && is_some (get other d)

-- the document breaks no rule
abbrev pub Fit : Data → Type 0
Fit d = AllByRecursion (λ rule. IsFalse (is_broken d rule)) rules
