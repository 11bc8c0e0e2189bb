use Rattle.zarrs_chunk_plan.proofs.Common.{◌≡◌, ◌+◌, ◌∙◌, ap, sym, arith, counted}
use Rattle.zarrs_chunk_plan.proofs.resize.ChunksChanged.{counted_is, not_counted, sum_counted}
use Rattle.zarrs_chunk_plan.proofs.resize.chunk_changes.sum_of.Goals as goal

pub returns-in-Some-Some : goal.returns-in-Some-Some
returns-in-Some-Some c = λ m n one other.
    let (first, _) = counted_is m c.in-Some-Some.one (sym c.in-Some-Some.is-0 ∙ one) in
    let (second, _) = counted_is n c.in-Some-Some.other (sym c.in-Some-Some.is-1 ∙ other) in
    sum_counted m n c.checked_add.result (rw (← first, ← second) c.checked_add.ensures)

pub returns-in_default : goal.returns-in_default
returns-in_default c = λ m n one other.
    let swapped : n + m ≡ m + n = omega arith in
    sym (not_counted n m (sym c.in_default.is-1 ∙ other)) ∙ ap counted swapped

pub returns-in_default-2 : goal.returns-in_default-2
returns-in_default-2 c = λ m n one other. sym (not_counted m n (sym c.in_default.is-0 ∙ one))
