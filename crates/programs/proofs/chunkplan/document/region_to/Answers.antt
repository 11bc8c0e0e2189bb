use Rattle.programs.proofs.chunkplan.Common.{inl, refl, view, region_in, of_document, both, later, stops_or, stops_told}
use Rattle.programs.proofs.chunkplan.document.region_to.Goals as goal

pub returns-in_err-check_type : goal.returns-in_err-check_type
returns-in_err-check_type c =
    stops_or _ (region_in (view c.args.tree.now) (view c.args.target) (view c.args.subset.now)) _ _ c.from_residual.ensures.1 _
    c.in_err-check_type.ensures inl

pub returns-in_err-target : goal.returns-in_err-target
returns-in_err-target c =
    stops_told _ (region_in (view c.args.tree.now) (view c.args.target) (view c.args.subset.now)) _ of_document _ c.from_residual-in_err-target.ensures.1 _ c.in_err-target.ensures
    (λ is. later _ c.in_ok-check_type.ensures (later _ c.in_ok-shape.ensures (inl (_, is, refl))))

pub returns-in_err-elements : goal.returns-in_err-elements
returns-in_err-elements c =
    stops_or _ (region_in (view c.args.tree.now) (view c.args.target) (view c.args.subset.now)) _ _ c.from_residual-in_err-elements.ensures.1 _ c.in_err-elements.ensures
    (λ is. later _ c.in_ok-check_type.ensures (later _ c.in_ok-shape.ensures (later _ c.in_ok-target.ensures (inl is))))

pub returns-in_err-at : goal.returns-in_err-at
returns-in_err-at c =
    stops_told _ (region_in (view c.args.tree.now) (view c.args.target) (view c.args.subset.now)) _ of_document _ c.from_residual-in_err-at.ensures.1 _ c.in_err-at.ensures
    (λ is. later _ c.in_ok-check_type.ensures (later _ c.in_ok-shape.ensures (later _ c.in_ok-target.ensures
    (later _ c.in_ok-elements.ensures (inl (_, is, refl))))))

pub returns-in_err-choice : goal.returns-in_err-choice
returns-in_err-choice c =
    stops_told _ (region_in (view c.args.tree.now) (view c.args.target) (view c.args.subset.now)) _ of_document _ c.from_residual-in_err-choice.ensures.1 _ c.in_err-choice.ensures
    (λ is. later _ c.in_ok-check_type.ensures (later _ c.in_ok-shape.ensures (later _ c.in_ok-target.ensures
    (later _ c.in_ok-elements.ensures (later _ c.in_ok-at.ensures (inl (_, is, refl)))))))

pub returns : goal.returns
returns c =
    both _ c.in_ok-check_type.ensures (both _ c.in_ok-shape.ensures (both _ c.in_ok-target.ensures (both _ c.in_ok-elements.ensures
    (both _ c.in_ok-at.ensures (both _ c.in_ok-choice.ensures refl)))))
