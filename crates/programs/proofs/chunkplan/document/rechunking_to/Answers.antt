use Rattle.programs.proofs.chunkplan.Common.{ap, copy_to, inl, refl, stored_of, view, choice_of, rechunking_in, of_document, both, later, stops_or, stops_told}
use Rattle.programs.proofs.chunkplan.document.rechunking_to.Goals as goal

pub returns-in_err-check_target : goal.returns-in_err-check_target
returns-in_err-check_target c =
    stops_or _ (rechunking_in (view c.args.tree.now) (view c.args.target)) _ _ c.from_residual.ensures.1 _
    c.in_err-check_target.ensures inl

pub returns-in_err-choice : goal.returns-in_err-choice
returns-in_err-choice c =
    stops_told _ (rechunking_in (view c.args.tree.now) (view c.args.target)) _ of_document _ c.from_residual-in_err-choice.ensures.1 _ c.in_err-choice.ensures
    (λ is. later _ c.in_ok-check_target.ensures (later _ c.in_ok-stored.ensures (inl (_, is, refl))))

pub returns-in_err-chunks : goal.returns-in_err-chunks
returns-in_err-chunks c =
    stops_or _ (rechunking_in (view c.args.tree.now) (view c.args.target)) _ _ c.from_residual-in_err-chunks.ensures.1 _ c.in_err-chunks.ensures
    (λ is. later _ c.in_ok-check_target.ensures (later _ c.in_ok-stored.ensures (later _ c.in_ok-choice.ensures (inl is))))

pub returns : goal.returns
returns c =
    let same = ap (λ selection. copy_to (stored_of c.in_ok-stored.stored) (record { choice = choice_of c.in_ok-choice.choice; selection = selection }))
    c.into_box-selection.ensures in
    both _ c.in_ok-check_target.ensures (both _ c.in_ok-stored.ensures (both _ c.in_ok-choice.ensures (both _ c.in_ok-chunks.ensures same)))
