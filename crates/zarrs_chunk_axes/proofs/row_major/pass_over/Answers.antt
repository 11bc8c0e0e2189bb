use Rattle.std.proofs.Common.{◌≡◌, ◌∙◌, ◌++◌, ◌<◌, ℕ, Bool, true, false, List, IsTrue, MatchBool, get_or, ap, subst, sym, true≢false, arith, rules}
use Rattle.zarrs_chunk_axes.specs.InBounds.{AreBelow}
use Rattle.zarrs_chunk_axes.specs.seen.Counting.{AreFull, IsPassed, IsRaisable, from, raised}
use Rattle.zarrs_chunk_axes.proofs.Passing.{all_passed, raised_below, raised_passed}
use Rattle.zarrs_chunk_axes.proofs.row_major.pass_over.Goals as goal

abbrev Stepped : Bool → List ℕ → ℕ → List ℕ → List ℕ → Type 0
Stepped found shape end old new = MatchBool found ((k : ℕ) × IsRaisable shape old end k × (new ≡ raised k old)) (AreFull shape old 0 end)

below : (found : Bool) (shape : List ℕ) (end : ℕ) (old new : List ℕ) → AreBelow shape old → Stepped found shape end old new → IsTrue found
    → AreBelow shape new
below true shape end old new low (k, is, same) found = subst (AreBelow shape) (sym same) (raised_below shape old k low is.below)
below false shape end old new low full found = absurd (true≢false (sym found))

passed : (found : Bool) (shape : List ℕ) (end : ℕ) (old new : List ℕ) → AreBelow shape old → ((k : ℕ) → end < k → get_or old k 0 ≡ 0)
    → Stepped found shape end old new → (passed : List (List ℕ)) × IsPassed shape old (from found shape new) passed
passed true shape end old new low zeros (k, is, same) =
    let (passed, behind) = raised_passed shape old end k low is zeros in
    (passed, record { all = behind.all ∙ ap (λ list. passed ++ from true shape list) (sym same); at_least = behind.at_least; some = behind.some })
passed false shape end old new low zeros full = all_passed shape old end low full zeros

pub returns-in-Some-clause-below : goal.returns-in-Some-clause-below
returns-in-Some-clause-below c =
    below c.raise_last.result c.args.shape.now c.in-Some.place c.args.numbers.now c.raise_last.new.numbers (search rules) (search rules)

pub returns-in-Some-clause-passed : goal.returns-in-Some-clause-passed
returns-in-Some-clause-passed c =
    passed c.raise_last.result c.args.shape.now c.in-Some.place c.args.numbers.now c.raise_last.new.numbers (search rules)
    (search rules) (search rules)

pub returns-in-None-clause-passed : goal.returns-in-None-clause-passed
returns-in-None-clause-passed c =
    all_passed c.args.shape.now c.args.numbers.now 0 (search rules) (λ k first last. absurd (omega arith)) (search rules)
