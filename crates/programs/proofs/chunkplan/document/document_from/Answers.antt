use Rattle.programs.proofs.chunkplan.Common.{Ok, Err, inl, inr, option_map, refl, view, form_in, of_document, both, later, stops_or, stops_told}
use Rattle.documents.specs.declared.document_fault.DocumentFault.TheVariants.{Memory as NoMemory}
use Rattle.programs.proofs.chunkplan.LeftMembers.{left_of}
use Rattle.programs.proofs.chunkplan.document.document_from.Goals as goal

pub returns-in_err-check_document : goal.returns-in_err-check_document
returns-in_err-check_document c =
    stops_or _ (form_in (view c.args.tree)) _ _ c.from_residual.ensures.1 _ c.in_err-check_document.ensures inl

pub returns-in_err-wanted : goal.returns-in_err-wanted
returns-in_err-wanted c =
    stops_told _ (form_in (view c.args.tree)) _ of_document _ c.from_residual-in_err-wanted.ensures.1 _ c.in_err-wanted.ensures
    (λ is. later _ c.in_ok-check_document.ensures (later _ c.in_ok-shape.ensures (inl (_, is, refl))))

pub returns-in_err-keys : goal.returns-in_err-keys
returns-in_err-keys c =
    stops_told _ (form_in (view c.args.tree)) _ of_document _ c.from_residual-in_err-keys.ensures.1 NoMemory (inr c.in_err-keys.ensures)
    (λ is. later _ c.in_ok-check_document.ensures (later _ c.in_ok-shape.ensures (later _ c.in_ok-wanted.ensures (inl (_, is, refl)))))

pub returns-in_err-stored : goal.returns-in_err-stored
returns-in_err-stored c =
    stops_told _ (form_in (view c.args.tree)) _ of_document _ c.from_residual-in_err-stored.ensures.1 _ c.in_err-stored.ensures.stored
    (λ is. later _ c.in_ok-check_document.ensures (later _ c.in_ok-shape.ensures (later _ c.in_ok-wanted.ensures
    (later _ c.in_ok-keys.ensures (inl (_, is, refl))))))

pub returns-in_err-task : goal.returns-in_err-task
returns-in_err-task c =
    let left = left_of (view c.args.tree) (view c.take_stored.new.tree) (view c.take_member-target.new.tree) c.in_ok-stored.ensures.others
    c.take_member-target.ensures.others (option_map view c.take_member-target.result) c.take_member-target.ensures.taken in
    stops_or _ (form_in (view c.args.tree)) _ _ c.from_residual-in_err-task.ensures.1 _ c.in_err-task.ensures
    (λ is. later _ c.in_ok-check_document.ensures (later _ c.in_ok-shape.ensures (later _ c.in_ok-wanted.ensures
    (later _ c.in_ok-keys.ensures (later _ c.in_ok-stored.ensures.stored (inl (left (Err _) is)))))))

pub returns : goal.returns
returns c =
    let left = left_of (view c.args.tree) (view c.take_stored.new.tree) (view c.take_member-target.new.tree) c.in_ok-stored.ensures.others
    c.take_member-target.ensures.others (option_map view c.take_member-target.result) c.take_member-target.ensures.taken in
    both _ c.in_ok-check_document.ensures (both _ c.in_ok-shape.ensures (both _ c.in_ok-wanted.ensures (both _ c.in_ok-keys.ensures
    (both _ c.in_ok-stored.ensures.stored (both _ (left (Ok _) c.in_ok-task.ensures) refl)))))
