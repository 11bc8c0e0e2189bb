use Rattle.programs.proofs.chunkplan.Common.{inl, inr, view, choice_in, later, stops_or}
use Rattle.documents.specs.declared.document_fault.DocumentFault.TheVariants.{Memory as NoMemory}
use Rattle.programs.proofs.chunkplan.task_choice.member_choice.Goals as goal

pub returns-in_err-order-in-None : goal.returns-in_err-order-in-None
returns-in_err-order-in-None c =
    let unbound = rw c.in-None.is at c.in_ok-most.ensures in
    stops_or _ (choice_in (view c.args.tree.now)) _ _ c.from_residual-in_err-order-in-None.ensures.1 NoMemory
    (inr c.in_err-order-in-None.ensures) (λ is. later _ unbound (later _ c.in_ok-each-in-None.ensures (inl is)))
