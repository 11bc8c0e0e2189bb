-- What the exit of a `?` returns.
use Rattle.programs.proofs.chunkplan.Common.{◌≡◌, ◌∙◌, Err, IsErrAnd, MatchResult, Result, ap, err_from_is_err_and, RunFault}

-- the call's fault is handed on
pub handed : {X : Type 0} (r : Result X RunFault) (fault : RunFault) → IsErrAnd r (λ other. other ≡ fault) → r ≡ Err fault
handed r fault is = let p = err_from_is_err_and r is in p.1 ∙ ap Err p.2

-- what is said of it
pub exits : {X : Type 0} (P : X → Type 0) (F : RunFault → Type 0) (r : Result X RunFault) (fault : RunFault) → IsErrAnd r (λ other. other ≡ fault)
    → F fault → MatchResult r P F
exits P F r fault same is = rw (handed r fault same) is
