use Rattle.zarrs_chunk_plan.proofs.Common.{◌≡◌, ◌∙◌, ℕ, List, [], ◌∷◌, ◌++◌, append-nil, ap, length, sym, refl, arith, ⊎_elim, counted_from}
use Rattle.zarrs_chunk_plan.proofs.copy.moved.sums.Goals as goal

-- behind the end of either list there are no sums
none_left : (first steps : List ℕ) → length first ≡ 0 → counted_from first steps ≡ []
none_left [] steps none = refl
none_left (_ ∷ _) steps none = absurd (omega arith)

none_right : (first steps : List ℕ) → length steps ≡ 0 → counted_from first steps ≡ []
none_right [] steps none = refl
none_right (_ ∷ _) [] none = refl
none_right (_ ∷ _) (_ ∷ _) none = absurd (omega arith)

pub returns : goal.returns
returns c =
    let sums = c.loop-start.sums.items in
    let first = c.loop-start.start-iterator.a.rest.now in
    let steps = c.loop-start.start-iterator.b.rest.now in
    let over : counted_from first steps ≡ [] =
    ⊎_elim (λ (_, (none, _)). none_left first steps none) (λ (_, (none, _)). none_right first steps none) c.in-None.ensures.steps in
    sym (append-nil sums) ∙ ap (λ xs. sums ++ xs) (sym over) ∙ c.loop-start.invariant
