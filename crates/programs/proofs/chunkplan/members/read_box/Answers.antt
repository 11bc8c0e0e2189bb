use Rattle.programs.proofs.chunkplan.Common.{◌≡◌, Some, inr, refl, sym, map-id, view, list_of, pair_of, size_of}
use Rattle.programs.proofs.chunkplan.members.read_box.Goals as goal

pub returns-in-Ok : goal.returns-in-Ok
returns-in-Ok c =
    let lists : pair_of (list_of size_of) (view c.args.tree.now) ≡ Some (c.in-Some.start.items, c.in-Some.shape.items) =
    sym (rw (c.in-Some.is, map-id c.in-Some.start.items, map-id c.in-Some.shape.items) at c.in_ok-start.ensures) in
    (rw c.in-Ok.ensures.0 lists, c.in-Ok.ensures.1)

pub returns-in-Err : goal.returns-in-Err
returns-in-Err c =
    let lists : pair_of (list_of size_of) (view c.args.tree.now) ≡ Some (c.in-Some.start.items, c.in-Some.shape.items) =
    sym (rw (c.in-Some.is, map-id c.in-Some.start.items, map-id c.in-Some.shape.items) at c.in_ok-start.ensures) in
    inr (refl, c.in-Some.start.items, c.in-Some.shape.items, lists, c.in-Err.ensures)
