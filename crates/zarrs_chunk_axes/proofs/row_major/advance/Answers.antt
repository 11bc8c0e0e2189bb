use Rattle.std.proofs.Common.{◌≡◌, ◌∙◌, ℕ, Bool, true, false, List, IsTrue, MatchBool, length, ap, subst, sym, true≢false, rules}
use Rattle.zarrs_chunk_axes.specs.InBounds.{AreBelow}
use Rattle.zarrs_chunk_axes.specs.seen.Counting.{AreFull, IsRaisable, after, from, raised}
use Rattle.zarrs_chunk_axes.proofs.Passing.{none_after, one_passed, raised_below}
use Rattle.zarrs_chunk_axes.proofs.row_major.advance.Goals as goal

abbrev Stepped : Bool → List ℕ → List ℕ → List ℕ → Type 0
Stepped found shape old new =
    MatchBool found ((k : ℕ) × IsRaisable shape old (length shape) k × (new ≡ raised k old)) (AreFull shape old 0 (length shape))

below : (found : Bool) (shape old new : List ℕ) → AreBelow shape old → Stepped found shape old new → IsTrue found → AreBelow shape new
below true shape old new low (k, is, same) found = subst (AreBelow shape) (sym same) (raised_below shape old k low is.below)
below false shape old new low full found = absurd (true≢false (sym found))

next : (found : Bool) (shape old new : List ℕ) → AreBelow shape old → Stepped found shape old new → after shape old ≡ from found shape new
next true shape old new low (k, is, same) = one_passed shape old k low is ∙ ap (from true shape) (sym same)
next false shape old new low full = none_after shape old low full

pub returns-clause-below : goal.returns-clause-below
returns-clause-below c =
    below c.raise_last.result c.args.shape.now c.args.numbers.now c.raise_last.new.numbers (search rules) (search rules)

pub returns-clause-next : goal.returns-clause-next
returns-clause-next c =
    next c.raise_last.result c.args.shape.now c.args.numbers.now c.raise_last.new.numbers (search rules) (search rules)
