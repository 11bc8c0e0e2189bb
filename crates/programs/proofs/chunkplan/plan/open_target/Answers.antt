use Rattle.programs.proofs.chunkplan.Common.{ap, inl, inr, refl, ⊎_elim, of_target}
use Rattle.programs.proofs.chunkplan.plan.open_target.Goals as goal

pub returns-in-Err-clause-made : goal.returns-in-Err-clause-made
returns-in-Err-clause-made c =
    rw c.of_target.ensures (⊎_elim (λ memory. inl (ap of_target memory)) (λ is. inr (_, is, refl)) c.in-Err.ensures.refused)
