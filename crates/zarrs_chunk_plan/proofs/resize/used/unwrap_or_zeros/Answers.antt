use Rattle.zarrs_chunk_plan.proofs.Common.{◌≡◌, ◌<◌, List, [], ◌∷◌, ℕ, zero, suc, length, arith, replicate, subst, true}
use Rattle.std.proofs.Common.{rules}
use Rattle.zarrs_chunk_axes.specs.InBounds.{AreBelow}
use Rattle.zarrs_chunk_plan.specs.Strided.{has_zero}
use Rattle.zarrs_chunk_plan.proofs.BoxCover.{none_below_zero}
use Rattle.zarrs_chunk_plan.proofs.StridedForms.{zero_tells}
use Rattle.zarrs_chunk_plan.proofs.resize.used.unwrap_or_zeros.Goals as goal

none_below_zeros : (n : ℕ) (list : List ℕ) → 0 < n → ¬ AreBelow (replicate n 0) list
none_below_zeros zero list some below = absurd (omega arith)
none_below_zeros (suc n) [] some below = absurd below
none_below_zeros (suc n) (c ∷ list) some below = let less : c < 0 = below.0 in absurd (omega arith)

pub returns-then-contains-clause-those : goal.returns-then-contains-clause-those
returns-then-contains-clause-those c =
    let numbers = c.args.numbers.items in
    let found : has_zero numbers ≡ true = search rules in
    let (k, within, is) = (zero_tells numbers).0 found in
    let zeros : c.fill.new.self.items ≡ replicate {A = ℕ} (length numbers) 0 = search rules in
    λ list. (
      λ below. absurd (none_below_zeros (length numbers) list (omega arith) (subst (λ xs. AreBelow xs list) zeros below)),
      λ below. absurd (none_below_zero numbers list (k, within, is) below),
    )
