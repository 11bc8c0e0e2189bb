use Rattle.std.proofs.Common.{Some, inl, inr, refl}
use Rattle.programs.proofs.chunkplan.Exits.{exits}
use Rattle.programs.proofs.chunkplan.document.task_from.Goals as goal

pub returns-in_err-include_unchanged-in-Some : goal.returns-in_err-include_unchanged-in-Some
returns-in_err-include_unchanged-in-Some c =
    let shape = rw c.in-Some.is at c.in_ok-shape.ensures in
    exits _ _ _ _ c.from_residual-in_err-include_unchanged-in-Some.ensures.1
    (inr (inr (Some c.in-Some.shape.items, shape, inl (_, c.in_err-include_unchanged-in-Some.ensures, refl))))

pub returns-in_ok-include_unchanged-in-Some : goal.returns-in_ok-include_unchanged-in-Some
returns-in_ok-include_unchanged-in-Some c =
    let shape = rw c.in-Some.is at c.in_ok-shape.ensures in
    (Some c.in-Some.shape.items, shape, (_, c.in_ok-include_unchanged-in-Some.ensures, refl))
