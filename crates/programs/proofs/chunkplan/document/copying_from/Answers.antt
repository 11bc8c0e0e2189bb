use Rattle.programs.proofs.chunkplan.Common.{◌≡◌, None, Some, codes, inl, inr, refl, rules, ⊎_elim, MatchResult-weaker, get, view, copying_in}
use Rattle.programs.proofs.chunkplan.Common.{of_document, stops_told}
use Rattle.programs.proofs.chunkplan.document.copying_from.Goals as goal

pub returns-in_err-ranges : goal.returns-in_err-ranges
returns-in_err-ranges c =
    rw c.in_default.is
    (stops_told _ (copying_in (view c.args.tree.now) None) _ of_document _ c.from_residual-in_err-ranges.ensures.1 _ c.in_err-ranges.ensures
    (λ is. inr (_, c.in_ok-subset.ensures, inr (_, c.in_ok-clip.ensures, inl (_, is, refl)))))

pub returns-in-Some-get : goal.returns-in-Some-get
returns-in-Some-get c =
    let subset : get (codes "subset") (view c.args.tree.now) ≡ Some (view c.in-Some-get.subset.now) = search rules in
    rw c.in-Some.is (MatchResult-weaker c.region_to.result c.region_to.ensures
    (λ task is. (_, c.in_ok-check_object.ensures, rw subset is))
    (λ fault. ⊎_elim inl (λ is. inr (inr (_, c.in_ok-check_object.ensures, rw subset is)))))

pub returns-in-None : goal.returns-in-None
returns-in-None c =
    let none : get (codes "subset") (view c.args.tree.now) ≡ None = search rules in
    rw c.in-Some.is (MatchResult-weaker c.rechunking_to.result c.rechunking_to.ensures
    (λ task is. (_, c.in_ok-check_object.ensures, rw none is))
    (λ fault. ⊎_elim inl (λ is. inr (inr (_, c.in_ok-check_object.ensures, rw none is)))))
