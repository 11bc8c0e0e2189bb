use Rattle.programs.proofs.chunkplan.Common.{IsFalse, IsTrue, drop, map, view, AllByRecursion, Rule, is_broken, rule_of}
use Rattle.zarrs_chunk_base.specs.First.{IsFirst}
use Rattle.programs.proofs.chunkplan.member_rules.first_broken.Given as goal

-- The first of the rules that are left to be broken is the first of all; and where none of those is broken, none of all is.
abbrev pub invariant-loop-rule : goal.invariant-loop-rule
invariant-loop-rule l =
    let left = map rule_of (drop l.rule-index l.rules) in
    let all = map rule_of l.rules in
    ((rule : Rule) → IsFirst (λ rule. IsTrue (is_broken (view l.tree) rule)) left rule
    → IsFirst (λ rule. IsTrue (is_broken (view l.tree) rule)) all rule)
    × (AllByRecursion (λ rule. IsFalse (is_broken (view l.tree) rule)) left → AllByRecursion (λ rule. IsFalse (is_broken (view l.tree) rule)) all)
